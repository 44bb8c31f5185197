-- What `eval` asks and answers: the figure of the chosen rollup, by cases of the choice, and its bits.
-- Assumes nothing.
use Rattle.std.specs.Prelude.{List, ◌≡◌, Bool, true, false, cond, ℕ, ◌*◌, ◌≤◌, length, ℤ, Float}
use Rattle.std.specs.Float.{binary64}
use Rattle.std.specs.Float.Ieee.{to_bits}
use Rattle.quantile.specs.Quantile.{mad_of, median_of, quantile_of}
use Rattle.math.specs.Deviation.{stddev_of, stdvar_of}
use Rattle.math.specs.Mode.{mode_of}
use Rattle.window.specs.declared.types.RollupFuncArg.{RollupFuncArg}
use Rattle.window.specs.Types.{Ranged}
use Rattle.ieee.specs.Mark.{is_mark, mark}
use Rattle.ieee.specs.Patterns.{floats}
use Rattle.window.specs.Window.{first_of, last_of, last_or}
use Rattle.value_rollups.specs.RollupFns.{avg_of, min_of, max_of, sum_of, sum2_of, rate_over_sum_of, range_of, absent_of, present_of, count_of, distinct_of, stale_samples_of}
use Rattle.value_rollups.specs.HoltWinters.{holt_winters_of}
use Rattle.change_rollups.specs.RollupFns.{increase_pure_of, changes_of, changes_prometheus_of, increases_of, resets_of, ascent_over_time_of, descent_over_time_of}
use Rattle.change_rollups.specs.Delta.{delta_of, delta_prometheus_of, idelta_of}
use Rattle.time_rollups.specs.RollupFns.{tmin_of, tmax_of, tfirst_of, tlast_of, tlast_change_of, lifetime_of, lag_of, scrape_interval_of, zscore_over_time_of, predict_linear_of}
use Rattle.time_rollups.specs.Deriv.{deriv_slow_of, deriv_fast_of, ideriv_of}
use Rattle.time_rollups.specs.Candlestick.{open_of, close_of, high_of, low_of}
use Rattle.time_rollups.specs.Integrate.{integrate_of}
use Rattle.time_rollups.specs.UntilNext.{until_next_of}
use Rattle.rollup.specs.declared.handler.RollupHandler.{RollupHandler}
use Rattle.rollup.specs.declared.handler.RollupHandler.TheVariants.{Avg, Min, Max, Mad, Median, Tmin, Tmax, Tfirst, Tlast, TlastChange, Sum, Sum2, RateOverSum, Range, Absent, Present, Count, Stddev, Stdvar, IncreasePure, Lifetime, Lag, ScrapeInterval, Changes, ChangesPrometheus, Increases, Resets, ModeOverTime, AscentOverTime, DescentOverTime, ZscoreOverTime, First, Default, Distinct, DerivSlow, DerivFast, Ideriv, Delta, DeltaPrometheus, Idelta, Open, Close, High, Low, Integrate, Quantile, PredictLinear, HoltWinters, UntilNext, StaleSamples}

-- what a caller shows: times in range, as many of them as values, and a work slice of twice that
pub record Ready (r : RollupFuncArg) (values : List ℕ) (ts : List ℤ) (room : ℕ) : Type 0 where
  pub ranged : Ranged r ts
  pub same : length ts ≡ length values
  pub space : 2 * length values ≤ room

-- the figure for a record with the values xs, whose patterns are bs, and the times ts
abbrev pub figure_of : RollupHandler → RollupFuncArg → List ℕ → List Float → List ℤ → Float
figure_of Avg r bs xs ts = avg_of xs
figure_of Min r bs xs ts = min_of xs
figure_of Max r bs xs ts = max_of xs
figure_of Mad r bs xs ts = mad_of xs
figure_of Median r bs xs ts = median_of xs
figure_of Tmin r bs xs ts = tmin_of xs ts
figure_of Tmax r bs xs ts = tmax_of xs ts
figure_of Tfirst r bs xs ts = tfirst_of ts
figure_of Tlast r bs xs ts = tlast_of ts
figure_of TlastChange r bs xs ts = tlast_change_of r.prev_value xs ts
figure_of Sum r bs xs ts = sum_of xs
figure_of Sum2 r bs xs ts = sum2_of xs
figure_of RateOverSum r bs xs ts = rate_over_sum_of r xs
figure_of Range r bs xs ts = range_of xs
figure_of Absent r bs xs ts = absent_of xs
figure_of Present r bs xs ts = present_of xs
figure_of Count r bs xs ts = count_of xs
figure_of Stddev r bs xs ts = stddev_of xs
figure_of Stdvar r bs xs ts = stdvar_of xs
figure_of IncreasePure r bs xs ts = increase_pure_of r.prev_value xs
figure_of Lifetime r bs xs ts = lifetime_of r ts
figure_of Lag r bs xs ts = lag_of r ts
figure_of ScrapeInterval r bs xs ts = scrape_interval_of r ts
figure_of Changes r bs xs ts = changes_of r.prev_value xs
figure_of ChangesPrometheus r bs xs ts = changes_prometheus_of xs
figure_of Increases r bs xs ts = increases_of r.prev_value xs
figure_of Resets r bs xs ts = resets_of r.prev_value xs
figure_of ModeOverTime r bs xs ts = mode_of r.prev_value xs
figure_of AscentOverTime r bs xs ts = ascent_over_time_of r.prev_value xs
figure_of DescentOverTime r bs xs ts = descent_over_time_of r.prev_value xs
figure_of ZscoreOverTime r bs xs ts = zscore_over_time_of r xs ts
figure_of First r bs xs ts = first_of xs
figure_of Default r bs xs ts = last_of xs
figure_of Distinct r bs xs ts = distinct_of xs
figure_of DerivSlow r bs xs ts = deriv_slow_of r xs ts
figure_of DerivFast r bs xs ts = deriv_fast_of r xs ts
figure_of Ideriv r bs xs ts = ideriv_of r xs ts
figure_of Delta r bs xs ts = delta_of r xs
figure_of DeltaPrometheus r bs xs ts = delta_prometheus_of xs
figure_of Idelta r bs xs ts = idelta_of r.prev_value xs
figure_of Open r bs xs ts = open_of r xs ts
figure_of Close r bs xs ts = close_of r xs ts
figure_of High r bs xs ts = high_of r xs ts
figure_of Low r bs xs ts = low_of r xs ts
figure_of Integrate r bs xs ts = integrate_of r xs ts
figure_of (Quantile phi) r bs xs ts = quantile_of phi xs
figure_of (PredictLinear secs) r bs xs ts = predict_linear_of r xs ts secs
figure_of (HoltWinters sf tf) r bs xs ts = holt_winters_of sf tf r.prev_value xs
figure_of UntilNext r bs xs ts = until_next_of r
figure_of StaleSamples r bs xs ts = stale_samples_of bs

-- ---- staleness marks

-- which rollups see the marks of a series: for the others they are taken out of it
abbrev pub sees_marks : RollupHandler → Bool
sees_marks Default = true
sees_marks StaleSamples = true
sees_marks h = false

-- default answers the last value, which may be a mark
abbrev pub answers_mark : RollupHandler → List ℕ → Bool
answers_mark Default values = is_mark (last_or 0 values)
answers_mark h values = false

-- its bits, with the one pattern for NaN; a mark that default answers has its own
unfoldable pub eval_of : RollupHandler → RollupFuncArg → List ℕ → List ℤ → ℕ
eval_of h r values ts = cond (answers_mark h values) mark (to_bits binary64 (figure_of h r values (floats values) ts))

-- the table of rollup_config.rs, and for the wait the one reading that it looks at, as for the lag
abbrev pub scanned_per_call : RollupHandler → ℕ
scanned_per_call Avg = 0
scanned_per_call Min = 0
scanned_per_call Max = 0
scanned_per_call Mad = 0
scanned_per_call Median = 0
scanned_per_call Tmin = 0
scanned_per_call Tmax = 0
scanned_per_call Tfirst = 1
scanned_per_call Tlast = 1
scanned_per_call TlastChange = 0
scanned_per_call Sum = 0
scanned_per_call Sum2 = 0
scanned_per_call RateOverSum = 0
scanned_per_call Range = 0
scanned_per_call Absent = 1
scanned_per_call Present = 1
scanned_per_call Count = 1
scanned_per_call Stddev = 0
scanned_per_call Stdvar = 0
scanned_per_call IncreasePure = 2
scanned_per_call Lifetime = 2
scanned_per_call Lag = 1
scanned_per_call ScrapeInterval = 2
scanned_per_call Changes = 0
scanned_per_call ChangesPrometheus = 0
scanned_per_call Increases = 0
scanned_per_call Resets = 0
scanned_per_call ModeOverTime = 0
scanned_per_call AscentOverTime = 0
scanned_per_call DescentOverTime = 0
scanned_per_call ZscoreOverTime = 0
scanned_per_call First = 1
scanned_per_call Default = 1
scanned_per_call Distinct = 0
scanned_per_call DerivSlow = 0
scanned_per_call DerivFast = 2
scanned_per_call Ideriv = 2
scanned_per_call Delta = 2
scanned_per_call DeltaPrometheus = 2
scanned_per_call Idelta = 2
scanned_per_call Open = 0
scanned_per_call Close = 0
scanned_per_call High = 0
scanned_per_call Low = 0
scanned_per_call Integrate = 0
scanned_per_call (Quantile phi) = 0
scanned_per_call (PredictLinear secs) = 0
scanned_per_call (HoltWinters sf tf) = 0
scanned_per_call UntilNext = 1
scanned_per_call StaleSamples = 0
