-- Times in order, and where the later ones begin.
-- A window is said by times, as a `filter` of the readings; the code works by indexes, which are `first_after` of a time.
-- proofs/Later.antt has the laws between the two.
-- Assumes nothing.
use Rattle.std.specs.Prelude.{true, List, [], ◌∷◌, ◌≡◌, refl, ℕ, suc, ◌<◌, ℤ, pos, length, get_or}
use Rattle.std.specs.Int.Signed.{le_z, lt_z}
use Rattle.times.specs.Leading.{leading}

-- no time is below the one before it
pub record NotFalling (ts : List ℤ) : Type 0 where
  pub next : (i : ℕ) → suc i < length ts → le_z (get_or ts i (pos 0)) (get_or ts (suc i) (pos 0)) ≡ true

-- each time is above the one before it
pub record Rising (ts : List ℤ) : Type 0 where
  pub next : (i : ℕ) → suc i < length ts → lt_z (get_or ts i (pos 0)) (get_or ts (suc i) (pos 0)) ≡ true

-- the first index with a time after t, or the length where there is none: how many times at the front are at most t
unfoldable pub first_after : List ℤ → ℤ → ℕ
first_after ts t = leading (λ u. le_z u t) ts

-- after 2, in 1, 2, 2, 4
past-equals : first_after (pos 1 ∷ pos 2 ∷ pos 2 ∷ pos 4 ∷ []) (pos 2) ≡ 3
unfolding first_after leading
past-equals = refl
