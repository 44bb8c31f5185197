-- What the wait for the next reading is about: the first reading after an output time, by its place in the times.
-- Assumes nothing.
use Rattle.std.specs.Prelude.{List, ◌≡◌, true, ℕ, ◌<◌, ℤ, pos, length, get_or}
use Rattle.std.specs.Int.Signed.{le_z, lt_z}

-- the time at k is after t, and none before it is
pub record FirstAfter (us : List ℤ) (t : ℤ) (k : ℕ) : Type 0 where
  pub inside : k < length us
  pub after : lt_z t (get_or us k (pos 0)) ≡ true
  pub others : (i : ℕ) → i < k → le_z (get_or us i (pos 0)) t ≡ true

-- no time is after t
abbrev pub NoneAfter : List ℤ → ℤ → Type 0
NoneAfter us t = (i : ℕ) → i < length us → le_z (get_or us i (pos 0)) t ≡ true
