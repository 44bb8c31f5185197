-- `value_rollups::rollup_fns::rollup_avg` meets its contract: it divides what `total` gives by the count.
-- Assumes nothing.
use Rattle.ieee.proofs.Floats.{length-floats}
use Rattle.window.proofs.Window.{no-values, some-values}
use Rattle.value_rollups.specs.RollupFns.{avg_of}
use Rattle.value_rollups.proofs.rollup_fns.rollup_avg.Goals as goal

pub returns-then-values-eq0 : goal.returns-then-values-eq0
unfolding avg_of
returns-then-values-eq0 c = rw (no-values _ c.if-values-eq0.true) c.nan.ensures

pub returns : goal.returns
unfolding avg_of
returns c = rw (some-values _ c.if-values-eq0.false, length-floats, ← c.total.ensures, ← c.of_count.ensures)
