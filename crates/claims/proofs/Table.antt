-- The table of stated cases holds: the checker computes each case from the definitions.
-- Assumes nothing.
use mathlib.Core.Path.{◌≡◌, refl}
use mathlib.Core.List.{map, zip_with}
use lib.Ieee.{add, div, eq, is_nan, le, lt, mul, ne, neg, of_bits, of_int, sub, to_bits, to_signed, to_unsigned}
use Rattle.root.specs.Root.{sqrt_of}
use Rattle.ieee.specs.Value.{abs_of, floor_of}
use Rattle.math.specs.Deviation.{stdvar_of}
use Rattle.math.specs.Mode.{mode_of}
use Rattle.quantile.specs.Quantile.{quantile_of}
use Rattle.order.specs.Sort.{sort_by}
use Rattle.sort.specs.Values.{kept}
use Rattle.times.specs.Readings.{filter}
use Rattle.steps.specs.Steps.{corrected, deltas, deltas_from, derivs, derivs_from, grown, intervals_from, lifted, outputs_from, prepared_of, sloped}
use Rattle.time_rollups.specs.Candlestick.{candlestick, close_of, first_candle}
use Rattle.rollup.specs.Eval.{eval_of}
use Rattle.change_rollups.specs.Delta.{delta_from, delta_of, first_step, starts_low}
use Rattle.value_rollups.specs.HoltWinters.{holt_winters_of, out_of_range, smooth_from}
use Rattle.value_rollups.specs.RollupFns.{max_of, min_of}
use Rattle.change_rollups.specs.RollupFns.{changes_from, changes_prometheus_of}
use Rattle.time_rollups.specs.RollupFns.{lag_of}
use Rattle.ieee.specs.Patterns.{floats}
use Rattle.window.specs.Window.{first_or, is_empty, last_or, up_to_last}
use Rattle.config.specs.Estimate.{distances, distances_from, estimate_of}
use Rattle.config.specs.Reach.{reach_of}
use Rattle.outputs.specs.Figures.{scans}
use Rattle.record.specs.Record.{last_if_any}
use Rattle.claims.specs.Table.{Case, from_second, table}

pub table-holds : map (λ (x : Case). x.computed) table ≡ map (λ (x : Case). x.stated) table
unfolding add div eq is_nan le lt mul ne neg of_bits of_int sub to_bits to_signed to_unsigned sqrt_of abs_of floor_of stdvar_of mode_of quantile_of sort_by kept filter zip_with corrected deltas deltas_from derivs derivs_from grown intervals_from lifted outputs_from prepared_of sloped candlestick close_of first_candle delta_from delta_of first_step starts_low holt_winters_of out_of_range smooth_from changes_from changes_prometheus_of lag_of max_of min_of first_or floats is_empty last_or up_to_last distances distances_from estimate_of reach_of scans last_if_any from_second eval_of
table-holds = refl
