-- `time_rollups::integrate::area` meets its contract: it folds `extend` over the readings.
-- Assumes nothing.
use native.Mathlib.Omega.{arith}
use Prim.Native.Nat.{min, ◌≤◌, ◌<◌}
use lib.IntN.{pos}
use lib.ListN.{length, get_or}
use mir.Facts.{to_z-of_z}
use Rattle.window.specs.Types.{InRange}
use Rattle.window.proofs.Times.{back}
use Rattle.window.proofs.Folds.{item}
use Rattle.time_rollups.proofs.Pairs.{taken, over, none_left}
use Rattle.time_rollups.specs.Integrate.{area_at, area_from}
use Rattle.time_rollups.proofs.integrate.area.Goals as goal

pub loop-i-preserved : goal.loop-i-preserved
unfolding area_at
loop-i-preserved c =
    let vs = c.args.values.now in
    let ts = c.args.timestamps.now in
    let i = c.loop-i.i in
    let in_values : i < length vs = omega arith in
    let in_times : i < length ts = omega arith in
    let h : InRange (get_or ts i (pos 0)) = c.requires.times i in
    let known = back (get_or ts i (pos 0)) h in
    (taken c.loop-i.invariant.0 (item vs i 0 in_values).here (item ts i (pos 0) in_times).here (cc known), rw known (omega (arith, h)))

pub returns : goal.returns
unfolding area_from area_at
returns c =
    let past : min (length c.args.values.now) (length c.args.timestamps.now) ≤ c.loop-i.i = omega arith in
    let e = rw (to_z-of_z c.ranges.t) at (over c.loop-i.invariant.0 (none_left c.args.values.now c.args.timestamps.now c.loop-i.i past)) in
    let d = rw (to_z-of_z c.ranges.end) at c.seconds_between-2.ensures in
    rw (← e, ← d)
