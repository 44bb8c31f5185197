-- The candlestick part of a window, by its values and by their patterns.
-- Assumes nothing.
use Prim.Native.Nat.{ℕ, ◌-◌}
use mathlib.Core.Path.{◌≡◌}
use mathlib.Core.List.{List}
use lib.IntN.{ℤ}
use lib.Signed.{lt_z}
use Rattle.ieee.specs.Patterns.{floats}
use Rattle.window.specs.Window.{up_to_last}
use Rattle.ieee.proofs.Floats.{take-values}
use Rattle.time_rollups.specs.Candlestick.{candlestick}

-- the values before the last reading below t are those of the patterns before it
pub candle-values : (t : ℤ) (ts : List ℤ) (l : List ℕ) → candlestick t ts (floats l) ≡ floats (candlestick t ts l)
unfolding candlestick
candle-values t ts l = take-values (up_to_last (λ (s : ℤ). lt_z s t) ts - 1) l
