-- `value_rollups::rollup_fns::rollup_count` meets its contract: the values are as many as their patterns.
-- Assumes nothing.
use Rattle.ieee.proofs.Floats.{length-floats}
use Rattle.window.proofs.Window.{no-values, some-values}
use Rattle.value_rollups.specs.RollupFns.{count_of}
use Rattle.value_rollups.proofs.rollup_fns.rollup_count.Goals as goal

pub returns-then-values-eq0 : goal.returns-then-values-eq0
unfolding count_of
returns-then-values-eq0 c = rw (no-values _ c.if-values-eq0.true) c.nan.ensures

pub returns : goal.returns
unfolding count_of
returns c = rw (some-values _ c.if-values-eq0.false, length-floats) c.of_count.ensures
