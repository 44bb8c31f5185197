-- `time_rollups::candlestick::rollup_close` meets its contract: the last of the values, and the predecessor where there is none.
-- Assumes nothing.
use mathlib.Core.Path.{◌∙◌, sym}
use Rattle.ieee.specs.Patterns.{floats}
use Rattle.ieee.proofs.Floats.{length-floats}
use Rattle.window.proofs.Window.{last_none, last-any}
use Rattle.time_rollups.specs.Candlestick.{close_of}
use Rattle.time_rollups.proofs.Candles.{candle-values}
use Rattle.time_rollups.proofs.candlestick.rollup_close.Goals as goal

pub returns-then-candles-eq0 : goal.returns-then-candles-eq0
unfolding close_of
returns-then-candles-eq0 c = rw (candle-values, ← c.get_candlestick_values-candles.ensures, last_none _ (floats c.get_candlestick_values-candles.result.now) (length-floats _ ∙ c.if-candles-eq0.true)) c.get_first_value_for_candlestick.ensures

pub returns : goal.returns
unfolding close_of
returns c =
    rw (candle-values, ← c.get_candlestick_values-candles.ensures)
    (c.last.ensures ∙ last-any _ _ _ (λ e. c.if-candles-eq0.false (sym (length-floats _) ∙ e)))
