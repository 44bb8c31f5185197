-- The crossings of a limit: the readings whose value is on the other side of it from the one before.
-- proofs/Indexes.antt shows that the indexes rise, and that an index is listed exactly where the two sides differ.
-- Assumes nothing.
use Rattle.std.specs.Prelude.{ℕ, suc, ◌-◌, ◌<◌, Bool, false, not, ◌||◌, List, [], ◌∷◌, ◌++◌, ◌≡◌, refl, eqb, ltb, ℤ, Float, length, get_or, drop}
use Rattle.std.proofs.Math.Bool.{xor}
use Rattle.std.specs.Float.{binary64}
use Rattle.std.specs.Float.Ieee.{lt, of_bits}
use Rattle.std.specs.Float.Ieee.Scale.{finite}
use Rattle.std.specs.List.{filter, range_with_len}
use Rattle.series.specs.Answers.{Outcome, outcome_of}
use Rattle.series.specs.Refusals.{first_refusal, refused_if}
use Rattle.series.specs.Rows.{series_checked}
use Rattle.series.specs.declared.refusal.Refusal.TheVariants.{LimitNotFinite, IndexesShort}
use Rattle.series.specs.Refusals.{Checked}

-- a value, by its pattern, is below the limit or else above it; the two zeros are one value and one limit
abbrev pub below : Float → ℕ → Bool
below limit v = lt (of_bits binary64 v) limit

-- the value at i is on the other side from the one before
abbrev pub crosses : Float → List ℕ → ℕ → Bool
crosses limit vs i = xor (below limit (get_or vs (i - 1) 0)) (below limit (get_or vs i 0))

-- of the indexes from 1 on, the crossings'
unfoldable pub crossing_indexes : Float → List ℕ → List ℕ
crossing_indexes limit vs = filter (crosses limit vs) (range_with_len 1 (length vs - 1))

-- 1.0, 2.0, 3.0 and 1.0 again, and the limit 2.0: a value at the limit is above it
over-and-under : crossing_indexes (of_bits binary64 0x4000_0000_0000_0000) (0x3FF0_0000_0000_0000 ∷ 0x4000_0000_0000_0000 ∷ 0x4008_0000_0000_0000 ∷ 0x3FF0_0000_0000_0000 ∷ []) ≡ 1 ∷ 3 ∷ []
unfolding crossing_indexes xor lt of_bits
over-and-under = refl

-- −0.0 is not below the limit 0.0
zeros : crossing_indexes (of_bits binary64 0) (0x8000_0000_0000_0000 ∷ 0 ∷ 0x8000_0000_0000_0000 ∷ []) ≡ []
unfolding crossing_indexes xor lt of_bits
zeros = refl

-- ---- what is said of them

pub record Rises (is : List ℕ) : Type 0 where
  pub next : (k : ℕ) → suc k < length is → get_or is k 0 < get_or is (suc k) 0

-- i is among them
unfoldable pub listed : ℕ → List ℕ → Bool
listed i [] = false
listed i (j ∷ js) = eqb i j || listed i js

-- ---- the call

abbrev pub row15 : Float → Checked
row15 limit = refused_if (not (finite limit)) LimitNotFinite

-- n crossings, and a slice of room entries
abbrev pub row16 : ℕ → ℕ → Checked
row16 n room = refused_if (ltb room n) IndexesShort

-- rows 1 to 5, 15 and 16
unfoldable pub crossings_checked : List ℤ → List ℕ → Float → ℕ → Checked
crossings_checked ts vs limit room = first_refusal (series_checked ts vs ∷ row15 limit ∷ row16 (length (crossing_indexes limit vs)) room ∷ [])

-- the answer is how many there are; the slice begins with their indexes, all else is untouched
abbrev pub crossings_of : List ℤ → List ℕ → Float → List ℕ → Outcome ℕ (List ℕ)
crossings_of ts vs limit old =
    let found = crossing_indexes limit vs in
    outcome_of (crossings_checked ts vs limit (length old)) (length found) (found ++ drop (length found) old) old
