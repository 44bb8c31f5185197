-- `value_rollups::rollup_fns::rollup_min` meets its contract: it is the furthest value down from the first.
-- Assumes nothing.
use Rattle.window.proofs.Window.{no-values, some-values}
use Rattle.value_rollups.specs.RollupFns.{min_of}
use Rattle.value_rollups.proofs.rollup_fns.rollup_min.Goals as goal

pub returns-then-values-eq0 : goal.returns-then-values-eq0
unfolding min_of
returns-then-values-eq0 c = rw (no-values _ c.if-values-eq0.true) c.nan.ensures

pub returns : goal.returns
unfolding min_of
returns c = rw (some-values _ c.if-values-eq0.false, ← c.first.ensures) c.extreme.ensures
