-- `change_rollups::rollup_fns::rollup_increase_pure` meets its contract: the tests choose what is taken from the last value.
-- Assumes nothing.
use Rattle.window.proofs.Window.{no-values, some-values}
use Rattle.change_rollups.specs.RollupFns.{increase_pure_of}
use Rattle.change_rollups.proofs.rollup_fns.rollup_increase_pure.Goals as goal

pub returns-then-values-eq0 : goal.returns-then-values-eq0
unfolding increase_pure_of
returns-then-values-eq0 c = rw (no-values _ c.if-values-eq0.true, ← c.is_nan.ensures, c.if-is_nan.true) c.nan.ensures

pub returns-then-is_nan : goal.returns-then-is_nan
unfolding increase_pure_of
returns-then-is_nan c = rw (some-values _ c.if-values-eq0.false, ← c.is_nan.ensures, c.if-is_nan.true, ← c.last.ensures)

pub returns-then-values-eq0-2 : goal.returns-then-values-eq0-2
unfolding increase_pure_of
returns-then-values-eq0-2 c = rw (no-values _ c.if-values-eq0-2.true, ← c.is_nan.ensures, c.if-is_nan.false)

pub returns : goal.returns
unfolding increase_pure_of
returns c = rw (some-values _ c.if-values-eq0-2.false, ← c.is_nan.ensures, c.if-is_nan.false, ← c.last-2.ensures)
