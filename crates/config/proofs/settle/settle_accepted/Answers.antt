-- `settle::settle_accepted` meets its contract: each call's answer is the definition's of the answers before, and accepted settings fit the casts.
-- Assumes nothing.
use Prim.Native.Nat.{ℕ}
use mathlib.Core.Path.{◌≡◌}
use mathlib.Core.List.{List}
use native.Mathlib.Omega.{arith}
use lib.IntN.{ℤ, pos, nat_abs}
use mir.Syntax.{w64}
use mir.Val.{SFits}
use mir.Facts.{to_z-of_z}
use Rattle.times.specs.Grid.{grid_size, Spans}
use Rattle.times.proofs.Milli.{stored_and_read, within-fits}
use Rattle.settings.specs.declared.RollupConfig.{RollupConfig}
use Rattle.config.specs.Estimate.{estimate_of}
use Rattle.config.specs.Reach.{reach_of, bounded_reach, window_of}
use Rattle.settings.specs.Rows.{settings_checked}
use Rattle.series.specs.Rows.{times_checked}
use Rattle.std.specs.Prelude.{Ok}
use Rattle.config.specs.Settle.{settled_reach_of, settled_window_of}
use Rattle.config.proofs.Distances.{not-falling, within}
use Rattle.config.proofs.Estimates.{estimate-small}
use Rattle.config.proofs.Limits.{reach-in, window-in}
use Rattle.settings.proofs.Passed.{Passed, up_to_fits, castable, settings-passed}
use Rattle.config.proofs.settle.settle_accepted.Goals as goal

module _ (ts : List ℤ) (rc : RollupConfig) (settings : settings_checked rc ≡ Ok tt) where
  passed : Passed rc
  passed = settings-passed rc settings

  reach-is : {e m r : ℕ} → e ≡ estimate_of ts → m ≡ reach_of e → r ≡ bounded_reach (nat_abs (stored_and_read rc.lookback_delta)) (nat_abs (stored_and_read rc.min_staleness_interval)) m → r ≡ settled_reach_of ts rc
  unfolding settled_reach_of
  reach-is e m r = rw (to_z-of_z (up_to_fits passed.lookback), to_z-of_z (up_to_fits passed.staleness), m, e) at r

  window-is : {r w : ℕ} → r ≡ settled_reach_of ts rc → w ≡ window_of (nat_abs (stored_and_read rc.window)) (nat_abs (stored_and_read rc.step)) rc.may_adjust_window rc.is_default_rollup (nat_abs (stored_and_read rc.lookback_delta)) r → w ≡ settled_window_of ts rc
  unfolding settled_window_of
  window-is r w =
      rw (to_z-of_z (up_to_fits passed.window), to_z-of_z (up_to_fits passed.step), to_z-of_z (up_to_fits passed.lookback), r) at w

  spans : Spans (stored_and_read rc.start) (stored_and_read rc.end) (stored_and_read rc.step)
  spans =
      rw (to_z-of_z (within-fits tt passed.spans.start_within), to_z-of_z (within-fits tt passed.spans.end_within), to_z-of_z (up_to_fits passed.step)) passed.spans

  points-are : {n : ℕ} → n ≡ grid_size (stored_and_read rc.start) (stored_and_read rc.end) (stored_and_read rc.step) → n ≡ grid_size rc.start rc.end rc.step
  points-are n =
      rw (to_z-of_z (within-fits tt passed.spans.start_within), to_z-of_z (within-fits tt passed.spans.end_within), to_z-of_z (up_to_fits passed.step)) at n

  module _ (times : times_checked ts ≡ Ok tt) where
    window-fits : {w : ℕ} → w ≡ settled_window_of ts rc → SFits w64 (pos w)
    window-fits e = record { sfits = omega (arith, e, (window-in ts rc times settings).small) }

    reach-fits : {r : ℕ} → r ≡ settled_reach_of ts rc → SFits w64 (pos r)
    reach-fits e = record { sfits = omega (arith, e, (reach-in ts rc times settings).small) }

pub get_max_prev_interval-max_prev_interval-requires : goal.get_max_prev_interval-max_prev_interval-requires
get_max_prev_interval-max_prev_interval-requires c =
    let ts = c.args.times.now.slice.now in
    omega (arith, c.get_scrape_interval-scrape_interval.ensures, estimate-small ts (not-falling ts c.args.times.now.accepted) (within ts c.args.times.now.accepted))

pub overflow_cast-by-3 : goal.overflow_cast-by-3
overflow_cast-by-3 c = castable (settings-passed c.args.rc c.requires).lookback

pub overflow_cast-by-4 : goal.overflow_cast-by-4
overflow_cast-by-4 c = castable (settings-passed c.args.rc c.requires).staleness

pub overflow_cast-by : goal.overflow_cast-by
overflow_cast-by c = castable (settings-passed c.args.rc c.requires).window

pub overflow_cast-by-2 : goal.overflow_cast-by-2
overflow_cast-by-2 c = castable (settings-passed c.args.rc c.requires).step

pub overflow_cast-result : goal.overflow_cast-result
overflow_cast-result c =
    let ts = c.args.times.now.slice.now in
    let rc = c.args.rc in
    let ok = c.requires in
    let r = reach-is ts rc ok c.get_scrape_interval-scrape_interval.ensures c.get_max_prev_interval-max_prev_interval.ensures c.bounded_reach-far.ensures in
    window-fits ts rc ok c.args.times.now.accepted (window-is ts rc ok r c.adjusted_window-window.ensures)

pub overflow_cast-result-2 : goal.overflow_cast-result-2
overflow_cast-result-2 c =
    let ts = c.args.times.now.slice.now in
    let rc = c.args.rc in
    let ok = c.requires in
    reach-fits ts rc ok c.args.times.now.accepted (reach-is ts rc ok c.get_scrape_interval-scrape_interval.ensures c.get_max_prev_interval-max_prev_interval.ensures c.bounded_reach-far.ensures)

pub points-requires : goal.points-requires
points-requires c = spans c.args.times.now.slice.now c.args.rc c.requires

pub returns : goal.returns
returns c =
    let ts = c.args.times.now.slice.now in
    let rc = c.args.rc in
    let ok = c.requires in
    let r = reach-is ts rc ok c.get_scrape_interval-scrape_interval.ensures c.get_max_prev_interval-max_prev_interval.ensures c.bounded_reach-far.ensures in
    let w = window-is ts rc ok r c.adjusted_window-window.ensures in
    cc (to_z-of_z (window-fits ts rc ok c.args.times.now.accepted w), to_z-of_z (reach-fits ts rc ok c.args.times.now.accepted r), w, r, points-are ts rc ok c.points.ensures)
