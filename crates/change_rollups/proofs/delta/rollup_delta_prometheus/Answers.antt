-- `change_rollups::delta::rollup_delta_prometheus` meets its contract: the test decides.
-- Assumes nothing.
use borrow.Author.Tests.{lt-ltb, le-ltb}
use Rattle.ieee.proofs.Floats.{length-floats}
use Rattle.change_rollups.specs.Delta.{delta_prometheus_of}
use Rattle.change_rollups.proofs.delta.rollup_delta_prometheus.Goals as goal

pub returns-then-values-lt2 : goal.returns-then-values-lt2
unfolding delta_prometheus_of
returns-then-values-lt2 c = rw (length-floats, lt-ltb _ _ c.if-values-lt2.true) c.nan.ensures

pub returns : goal.returns
unfolding delta_prometheus_of
returns c = rw (length-floats, le-ltb _ _ c.if-values-lt2.false, ← c.last.ensures, ← c.first.ensures)
