-- `value_rollups::rollup_fns::rollup_sum` meets its contract: it is what `total` gives.
-- Assumes nothing.
use Rattle.window.proofs.Window.{no-values, some-values}
use Rattle.value_rollups.specs.RollupFns.{sum_of}
use Rattle.value_rollups.proofs.rollup_fns.rollup_sum.Goals as goal

pub returns-then-values-eq0 : goal.returns-then-values-eq0
unfolding sum_of
returns-then-values-eq0 c = rw (no-values _ c.if-values-eq0.true) c.nan.ensures

pub returns : goal.returns
unfolding sum_of
returns c = rw (some-values _ c.if-values-eq0.false) c.total.ensures
