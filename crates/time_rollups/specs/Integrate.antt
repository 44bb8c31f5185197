-- The rollup of integrate.rs: each value times the seconds to the next reading, added up from +0.0.
-- Assumes nothing.
use mathlib.Core.List.{List, foldl}
use Rattle.std.specs.Prelude.{cond, drop, ℤ, pos, ◌-ℤ◌, Float}
use Rattle.std.specs.Float.{nan, binary64}
use Rattle.std.specs.Float.Ieee.{add, mul, is_nan}
use Rattle.window.specs.declared.types.RollupFuncArg.{RollupFuncArg}
use Rattle.ieee.specs.Value.{seconds_of}
use Rattle.window.specs.Window.{readings, is_empty, first_or, first_of, zero_f}

-- the reading before, and the sum up to it
pub record Area : Type 0 where
  pub value : Float
  pub time : ℤ
  pub sum : Float

-- the sum up to the time t
unfoldable pub area_at : Area → ℤ → Float
area_at a t = add binary64 a.sum (mul binary64 a.value (seconds_of (t -ℤ a.time)))

-- the area after one more reading
abbrev pub extend : Area → Float × ℤ → Area
extend a x = record { value = x.0; time = x.1; sum = area_at a x.1 }

-- from the value v at the time t over the readings up to the time end
unfoldable pub area_from : Float → ℤ → List (Float × ℤ) → ℤ → Float
area_from v t rs end = area_at (foldl extend (record { value = v; time = t; sum = zero_f }) rs) end

-- from the predecessor, taken to stand at the window's start, or else from the window's first reading, up to the output time
unfoldable pub integrate_of : RollupFuncArg → List Float → List ℤ → Float
integrate_of r xs ts =
    cond (is_nan r.prev_value)
    (cond (is_empty xs) nan (area_from (first_of xs) (first_or (pos 0) ts) (readings (drop 1 xs) (drop 1 ts)) r.curr_timestamp))
    (area_from r.prev_value (r.curr_timestamp -ℤ r.window) (readings xs ts) r.curr_timestamp)
