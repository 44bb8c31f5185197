-- `change_rollups::delta::delta_from` meets its contract: the test decides.
-- Assumes nothing.
use mathlib.Core.Path.{refl}
use Rattle.window.proofs.Window.{no-values, some-values}
use Rattle.change_rollups.specs.Delta.{delta_from}
use Rattle.change_rollups.proofs.delta.delta_from.Goals as goal

pub returns-then-values-eq0 : goal.returns-then-values-eq0
unfolding delta_from
returns-then-values-eq0 c = rw (no-values _ c.if-values-eq0.true) refl

pub returns : goal.returns
unfolding delta_from
returns c = rw (some-values _ c.if-values-eq0.false, ← c.last.ensures)
