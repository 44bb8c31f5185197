-- `change_rollups::rollup_fns::rollup_changes_prometheus` meets its contract: the first value is compared with the others.
-- Assumes nothing.
use Rattle.ieee.proofs.Floats.{rest-values}
use Rattle.window.proofs.Window.{no-values, some-values}
use Rattle.change_rollups.specs.RollupFns.{changes_prometheus_of}
use Rattle.change_rollups.proofs.rollup_fns.rollup_changes_prometheus.Goals as goal

pub returns-then-values-eq0 : goal.returns-then-values-eq0
unfolding changes_prometheus_of
returns-then-values-eq0 c = rw (no-values _ c.if-values-eq0.true) c.nan.ensures

pub returns : goal.returns
unfolding changes_prometheus_of
returns c = rw (some-values _ c.if-values-eq0.false, rest-values, ← c.rest.ensures, ← c.first.ensures, ← c.count_changes.ensures.counted) c.of_count.ensures
