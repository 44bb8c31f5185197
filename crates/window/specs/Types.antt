-- What a rollup may take for granted of the times it is handed: they are so small that their differences fit an i64. Beside it, what a
-- loop may go by that reads values without a look for NaN.
-- Assumes nothing.
use Rattle.std.specs.Prelude.{List, true, ◌≡◌, ℕ, ◌≤◌, ◌<◌, ◌^◌, get_or, length, ℤ, pos, nat_abs}
use Rattle.std.specs.Option.{ForSome}
use Rattle.std.specs.Float.{binary64}
use Rattle.std.specs.Float.Ieee.{of_bits}
use Rattle.std.specs.Float.Ieee.Scale.{finite}
use Rattle.window.specs.declared.types.RollupFuncArg.{RollupFuncArg}

-- how far from 0 a time of a record may lie: with times within ±2^50 and a window and a reach of at most 2^52, none lies further
abbrev pub record_limit : ℕ
record_limit = 2 ^ 54

abbrev pub InRange : ℤ → Type 0
InRange t = nat_abs t ≤ record_limit

-- every time of a window is in range
abbrev pub AllInRange : List ℤ → Type 0
AllInRange ts = (i : ℕ) → InRange (get_or ts i (pos 0))

pub record Ranged (r : RollupFuncArg) (ts : List ℤ) : Type 0 where
  pub curr : InRange r.curr_timestamp
  pub prev : InRange r.prev_timestamp
  pub next : ForSome r.next_timestamp InRange
  pub window : InRange r.window
  pub times : AllInRange ts

-- every pattern of a window stands for a finite value
abbrev pub AllFinite : List ℕ → Type 0
AllFinite l = (i : ℕ) → i < length l → finite (of_bits binary64 (get_or l i 0)) ≡ true
