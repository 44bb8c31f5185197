-- `time_rollups::rollup_fns::rollup_lag` meets its contract: the two tests choose the time that is taken from the output time.
-- Assumes nothing.
use lib.IntN.{pos}
use Rattle.times.proofs.Milli.{read_back}
use Rattle.window.specs.Window.{last_or}
use Rattle.window.proofs.Window.{none, some}
use Rattle.window.proofs.Times.{back, apart, last-ranged}
use Rattle.time_rollups.specs.RollupFns.{lag_of}
use Rattle.time_rollups.proofs.rollup_fns.rollup_lag.Goals as goal

pub returns-then-is_nan : goal.returns-then-is_nan
unfolding lag_of
returns-then-is_nan c = rw (none _ c.if-timestamps-eq0.true, ← c.is_nan.ensures, c.if-is_nan.true) c.nan.ensures

pub returns-then-timestamps-eq0 : goal.returns-then-timestamps-eq0
unfolding lag_of
returns-then-timestamps-eq0 c =
    rw (none _ c.if-timestamps-eq0.true, ← c.is_nan.ensures, c.if-is_nan.false)
    (rw (back c.args.ranged.now.rfa.curr_timestamp c.args.ranged.now.in_range.curr, back c.args.ranged.now.rfa.prev_timestamp c.args.ranged.now.in_range.prev) at c.seconds_between.ensures)

pub seconds_between-requires-2 : goal.seconds_between-requires-2
seconds_between-requires-2 c =
    rw c.last_or.ensures (apart c.args.ranged.now.rfa.curr_timestamp (last_or (pos 0) c.args.ranged.now.timestamps.now) c.args.ranged.now.in_range.curr (last-ranged c.args.ranged.now.in_range))

pub returns : goal.returns
unfolding lag_of
returns c =
    rw (some _ c.if-timestamps-eq0.false, ← c.last_or.ensures)
    (rw (back c.args.ranged.now.rfa.curr_timestamp c.args.ranged.now.in_range.curr, read_back c.last_or.result c.last_or.type_inv) at c.seconds_between-2.ensures)
