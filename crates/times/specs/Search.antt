-- What the steps of the hinted search hand to each other.
-- Assumes nothing.
use Rattle.std.specs.Prelude.{Bool, true, false, List, ◌≡◌, ℕ, ◌≤◌, ◌<◌, ℤ}
use Rattle.times.specs.Later.{first_after}

-- a test at index i: where it holds, the first index after t is at most i, and where it fails it lies past i
pub record Tells (ts : List ℤ) (t : ℤ) (i : ℕ) (test : Bool) : Type 0 where
  pub yes : test ≡ true → first_after ts t ≤ i
  pub no : test ≡ false → i < first_after ts t
