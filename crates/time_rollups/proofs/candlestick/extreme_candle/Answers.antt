-- `time_rollups::candlestick::extreme_candle` meets its contract: the predecessor, or else the first value, is where it starts.
-- Assumes nothing.
use mathlib.Core.List.{foldl}
use mathlib.Core.Path.{refl, ◌∙◌}
use Rattle.window.specs.Window.{further}
use Rattle.window.proofs.Window.{from-seed}
use Rattle.time_rollups.specs.Candlestick.{extreme_candle}
use Rattle.time_rollups.proofs.Candles.{candle-values}
use Rattle.time_rollups.proofs.candlestick.extreme_candle.Goals as goal

pub returns : goal.returns
unfolding extreme_candle
returns c =
    let v = c.get_first_value_for_candlestick-v in
    rw (← v.ensures, candle-values, ← c.get_candlestick_values-candles.ensures)
    (c.extreme.ensures ∙ from-seed (foldl (further c.args.down)) v.result _ (λ n z. refl) c.seed.ensures c.after_seed.ensures)
