-- `time_rollups::deriv::rollup_deriv_fast` meets its contract: the tests choose the reading it starts at.
-- Assumes nothing.
use borrow.Author.Tests.{lt-ltb, le-ltb}
use Rattle.times.proofs.Milli.{read_back}
use Rattle.ieee.proofs.Floats.{length-floats}
use Rattle.window.proofs.Window.{no-values, some-values}
use Rattle.window.proofs.Times.{back, first-ranged}
use Rattle.time_rollups.specs.Deriv.{deriv_fast_of}
use Rattle.time_rollups.proofs.deriv.rollup_deriv_fast.Goals as goal

pub returns-then-values-lt2 : goal.returns-then-values-lt2
unfolding deriv_fast_of
returns-then-values-lt2 c = rw (← c.is_nan.ensures, c.if-is_nan.true, length-floats, lt-ltb _ _ c.if-values-lt2.true) c.nan.ensures

pub slope-requires-clause-start : goal.slope-requires-clause-start
slope-requires-clause-start c = rw (read_back c.first_or.result c.first_or.type_inv, c.first_or.ensures) (first-ranged c.args.ranged.now.in_range)

pub returns-then-is_nan : goal.returns-then-is_nan
unfolding deriv_fast_of
returns-then-is_nan c =
    rw (← c.is_nan.ensures, c.if-is_nan.true, length-floats, le-ltb _ _ c.if-values-lt2.false, ← c.first.ensures, ← c.first_or.ensures)
    (rw (read_back c.first_or.result c.first_or.type_inv) at c.slope.ensures)

pub returns-then-values-eq0 : goal.returns-then-values-eq0
unfolding deriv_fast_of
returns-then-values-eq0 c = rw (← c.is_nan.ensures, c.if-is_nan.false, no-values _ c.if-values-eq0.true)

pub returns : goal.returns
unfolding deriv_fast_of
returns c =
    rw (← c.is_nan.ensures, c.if-is_nan.false, some-values _ c.if-values-eq0.false)
    (rw (back c.args.ranged.now.rfa.prev_timestamp c.args.ranged.now.in_range.prev) at c.slope-2.ensures)
