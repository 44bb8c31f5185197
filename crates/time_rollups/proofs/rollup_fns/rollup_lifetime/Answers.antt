-- `time_rollups::rollup_fns::rollup_lifetime` meets its contract: the tests choose the time that is taken from the last.
-- Assumes nothing.
use lib.IntN.{pos}
use borrow.Author.Tests.{lt-ltb, le-ltb}
use Rattle.times.proofs.Milli.{read_back}
use Rattle.window.specs.Window.{first_or, last_or}
use Rattle.window.proofs.Window.{none, some}
use Rattle.window.proofs.Times.{back, apart, first-ranged, last-ranged}
use Rattle.time_rollups.specs.RollupFns.{lifetime_of}
use Rattle.time_rollups.proofs.rollup_fns.rollup_lifetime.Goals as goal

pub returns-then-timestamps-lt2 : goal.returns-then-timestamps-lt2
unfolding lifetime_of
returns-then-timestamps-lt2 c = rw (← c.is_nan.ensures, c.if-is_nan.true, lt-ltb _ _ c.if-timestamps-lt2.true) c.nan.ensures

pub seconds_between-requires : goal.seconds_between-requires
seconds_between-requires c =
    let ts = c.args.ranged.now.timestamps.now in
    rw (c.last_or.ensures, c.first_or.ensures) (apart (last_or (pos 0) ts) (first_or (pos 0) ts) (last-ranged c.args.ranged.now.in_range) (first-ranged c.args.ranged.now.in_range))

pub returns-then-is_nan : goal.returns-then-is_nan
unfolding lifetime_of
returns-then-is_nan c =
    rw (← c.is_nan.ensures, c.if-is_nan.true, le-ltb _ _ c.if-timestamps-lt2.false, ← c.first_or.ensures, ← c.last_or.ensures)
    (rw (read_back c.last_or.result c.last_or.type_inv, read_back c.first_or.result c.first_or.type_inv) at c.seconds_between.ensures)

pub returns-then-timestamps-eq0 : goal.returns-then-timestamps-eq0
unfolding lifetime_of
returns-then-timestamps-eq0 c = rw (← c.is_nan.ensures, c.if-is_nan.false, none _ c.if-timestamps-eq0.true) c.nan-then-timestamps-eq0.ensures

pub seconds_between-requires-2 : goal.seconds_between-requires-2
seconds_between-requires-2 c =
    rw c.last_or-2.ensures (apart (last_or (pos 0) c.args.ranged.now.timestamps.now) c.args.ranged.now.rfa.prev_timestamp (last-ranged c.args.ranged.now.in_range) c.args.ranged.now.in_range.prev)

pub returns : goal.returns
unfolding lifetime_of
returns c =
    rw (← c.is_nan.ensures, c.if-is_nan.false, some _ c.if-timestamps-eq0.false, ← c.last_or-2.ensures)
    (rw (read_back c.last_or-2.result c.last_or-2.type_inv, back c.args.ranged.now.rfa.prev_timestamp c.args.ranged.now.in_range.prev) at c.seconds_between-2.ensures)
