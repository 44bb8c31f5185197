-- The rollup that waits for the next reading. `r` is the window record.
-- Assumes nothing.
use Rattle.std.specs.Prelude.{Option, Some, None, ℤ, ◌-ℤ◌, Float}
use Rattle.std.specs.Float.{nan}
use Rattle.window.specs.declared.types.RollupFuncArg.{RollupFuncArg}
use Rattle.ieee.specs.Value.{seconds_of}

-- the seconds from one time to another, NaN where there is no other
abbrev pub wait : ℤ → Option ℤ → Float
wait from (Some to) = seconds_of (to -ℤ from)
wait from None = nan

-- the seconds from the output time to the first reading after it, NaN where there is none
unfoldable pub until_next_of : RollupFuncArg → Float
until_next_of r = wait r.curr_timestamp r.next_timestamp
