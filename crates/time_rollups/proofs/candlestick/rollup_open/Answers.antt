-- `time_rollups::candlestick::rollup_open` meets its contract: the predecessor where there is one, else the first of the values.
-- Assumes nothing.
use Rattle.time_rollups.specs.Candlestick.{open_of}
use Rattle.time_rollups.proofs.Candles.{candle-values}
use Rattle.time_rollups.proofs.candlestick.rollup_open.Goals as goal

pub returns : goal.returns
unfolding open_of
returns c = rw (← c.get_first_value_for_candlestick-v.ensures, candle-values, ← c.get_candlestick_values.ensures) c.seed.ensures
