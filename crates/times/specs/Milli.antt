-- Milliseconds as whole numbers. A time, a window or a step is an `i64`, whose value is a ℤ.
-- Assumes nothing.
use Rattle.std.specs.Prelude.{ℕ, ◌^◌, ◌≤◌, ℤ, nat_abs}

-- how far from 0 a time of the series or the grid may lie (refusals 3 and 7)
abbrev pub time_limit : ℕ
time_limit = 2 ^ 50

-- −k ≤ t ≤ k
pub record Within (k : ℕ) (t : ℤ) : Type 0 where
  pub size : nat_abs t ≤ k
