-- The table of cases that were stated for what goes beyond the Rust holds: the checker computes each case from the definitions.
-- Assumes nothing.
use mathlib.Core.Path.{◌≡◌, refl}
use mathlib.Core.List.{map, zip_with}
use lib.Ieee.{add, div, eq, is_nan, le, lt, mul, ne, neg, of_bits, of_int, sub, to_bits, to_signed, to_unsigned}
use Rattle.ieee.specs.Patterns.{floats}
use Rattle.ieee.specs.Value.{abs_of, floor_of}
use Rattle.quantile.specs.Quantile.{quantile_of}
use Rattle.order.specs.Sort.{sort_by}
use Rattle.sort.specs.Values.{kept}
use Rattle.times.specs.Leading.{leading, leading_run, leading_run_after}
use Rattle.times.specs.Readings.{filter}
use Rattle.series.specs.Rows.{finite_bits, series_checked, time_inside, times_checked}
use Rattle.ieee.specs.Mark.{is_mark}
use Rattle.marks.specs.Marks.{marked_checked, marked_row5, readable}
use Rattle.merge_series.specs.Call.{strict_checked}
use Rattle.config.specs.Estimate.{distances, distances_from, estimate_of}
use Rattle.steps.specs.Steps.{corrected, derivs, derivs_from, grown, lifted, outputs_from, prepared_of, sloped}
use Rattle.rollup.specs.Eval.{eval_of}
use Rattle.change_rollups.specs.Delta.{delta_from, delta_of, first_step, starts_low}
use Rattle.time_rollups.specs.Deriv.{deriv_fast_of, ideriv_of, slope_from}
use Rattle.time_rollups.specs.UntilNext.{until_next_of}
use Rattle.value_rollups.specs.RollupFns.{count_of, stale_samples_of}
use Rattle.window.specs.Window.{first_or, is_empty, last_or, up_to_last}
use Rattle.record.specs.Record.{last_if_any}
use Rattle.claims.specs.Requested.{requested}
use Rattle.claims.specs.Table.{Case, from_second}

pub requested-hold : map (λ (x : Case). x.computed) requested ≡ map (λ (x : Case). x.stated) requested
unfolding is_mark readable marked_row5 marked_checked series_checked stale_samples_of add div eq is_nan le lt mul ne neg of_bits of_int sub to_bits to_signed to_unsigned abs_of floor_of quantile_of sort_by kept leading leading_run leading_run_after filter zip_with finite_bits time_inside times_checked strict_checked distances distances_from estimate_of corrected derivs derivs_from grown lifted outputs_from prepared_of sloped eval_of delta_from delta_of first_step starts_low deriv_fast_of ideriv_of slope_from until_next_of count_of first_or is_empty last_or up_to_last floats last_if_any from_second
requested-hold = refl
