-- The rollups of candlestick.rs.
-- Assumes nothing.
use mathlib.Core.List.{List, foldl}
use Rattle.std.specs.Prelude.{Bool, true, false, cond, ◌-◌, take, ℤ, ◌+ℤ◌, Float}
use Rattle.std.specs.Int.Signed.{lt_z}
use Rattle.std.specs.Float.{nan}
use Rattle.std.specs.Float.Ieee.{is_nan}
use Rattle.window.specs.declared.types.RollupFuncArg.{RollupFuncArg}
use Rattle.window.specs.Window.{first_of, last_or, up_to_last, seeded, further}

-- the values before the last reading whose time is below t, so that reading is left out too
unfoldable pub candlestick : {A : Type 0} → ℤ → List ℤ → List A → List A
candlestick t ts xs = take (up_to_last (λ s. lt_z s t) ts - 1) xs

-- the predecessor, NaN where it lies more than a window's length before the output time
unfoldable pub first_candle : RollupFuncArg → Float
first_candle r = cond (lt_z (r.prev_timestamp +ℤ r.window) r.curr_timestamp) nan r.prev_value

-- the predecessor, or else the first of those values
unfoldable pub open_of : RollupFuncArg → List Float → List ℤ → Float
open_of r xs ts = cond (is_nan (first_candle r)) (first_of (candlestick r.curr_timestamp ts xs)) (first_candle r)

-- the last of those values, or else the predecessor
unfoldable pub close_of : RollupFuncArg → List Float → List ℤ → Float
close_of r xs ts = last_or (first_candle r) (candlestick r.curr_timestamp ts xs)

-- the furthest of those values that way, from the predecessor or else from the first of them, replaced only by one beyond it
unfoldable pub extreme_candle : Bool → RollupFuncArg → List Float → List ℤ → Float
extreme_candle down r xs ts = seeded (foldl (further down)) (first_candle r) (candlestick r.curr_timestamp ts xs)

-- the greatest
abbrev pub high_of : RollupFuncArg → List Float → List ℤ → Float
high_of r xs ts = extreme_candle false r xs ts

-- the least
abbrev pub low_of : RollupFuncArg → List Float → List ℤ → Float
low_of r xs ts = extreme_candle true r xs ts
