-- The reading nearest to a time. Times need not differ: of several at the least distance it is the first.
-- proofs/Closest.antt shows that the definition gives `Nearest`, and nothing else is so.
-- Assumes nothing.
use Rattle.std.specs.Prelude.{ℕ, ◌≤◌, ◌<◌, Bool, false, not, ◌||◌, List, [], ◌∷◌, ◌≡◌, refl, ltb, Option, Some, None, ℤ, pos, nat_abs, ◌-ℤ◌, length, get_or}
use Rattle.times.specs.Leading.{leading}
use Rattle.series.specs.Answers.{Reply, reply_of}
use Rattle.series.specs.Refusals.{first_refusal, refused_if}
use Rattle.series.specs.Rows.{row2, row3, row4, time_inside}
use Rattle.series.specs.declared.refusal.Refusal.TheVariants.{TimeOutside}
use Rattle.series.specs.Refusals.{Checked}

-- how far u lies from t
abbrev pub distance : ℤ → ℤ → ℕ
distance t u = nat_abs (u -ℤ t)

-- one of the times lies closer to t than u
unfoldable pub has_closer : ℤ → List ℤ → ℤ → Bool
has_closer t [] u = false
has_closer t (v ∷ vs) u = ltb (distance t v) (distance t u) || has_closer t vs u

-- the first index whose time has no closer one: so many times at the front have one
unfoldable pub nearest_index : ℤ → List ℤ → ℕ
nearest_index t ts = leading (has_closer t ts) ts

-- none for an empty series only
abbrev pub nearest_reading : ℤ → List ℤ → Option ℕ
nearest_reading t [] = None
nearest_reading t (u ∷ us) = Some (nearest_index t (u ∷ us))

-- of 1, 4, 4 and 9 the nearest to 5 is the first 4
first-of-equals : nearest_reading (pos 5) (pos 1 ∷ pos 4 ∷ pos 4 ∷ pos 9 ∷ []) ≡ Some 1
unfolding nearest_index has_closer leading
first-of-equals = refl

-- 1 and 9 are as far from 5, and 1 has the lower index
tie : nearest_reading (pos 5) (pos 1 ∷ pos 9 ∷ []) ≡ Some 0
unfolding nearest_index has_closer leading
tie = refl

-- what the nearest is: the reading at i has the least distance from t, and a lower index none as small
pub record Nearest (t : ℤ) (ts : List ℤ) (i : ℕ) : Type 0 where
  pub within : i < length ts
  pub closest : (j : ℕ) → j < length ts → distance t (get_or ts i (pos 0)) ≤ distance t (get_or ts j (pos 0))
  pub lowest : (j : ℕ) → j < i → distance t (get_or ts i (pos 0)) < distance t (get_or ts j (pos 0))

-- ---- the call

-- row 3 of the asked time, which is no reading
abbrev pub row3_asked : ℤ → Checked
row3_asked t = refused_if (not (time_inside t)) (TimeOutside 0)

-- rows 2 to 4, with that of the asked time after the readings' own 3
unfoldable pub asked_checked : List ℤ → ℤ → Checked
asked_checked ts t = first_refusal (row2 ts ∷ row3 ts ∷ row3_asked t ∷ row4 ts ∷ [])

abbrev pub nearest_of : List ℤ → ℤ → Reply (Option ℕ)
nearest_of ts t = reply_of (asked_checked ts t) (nearest_reading t ts)
