-- `value_rollups::rollup_fns::rollup_absent` meets its contract: the test decides.
-- Assumes nothing.
use mathlib.Core.Path.{refl}
use Rattle.window.proofs.Window.{no-values, some-values}
use Rattle.value_rollups.specs.RollupFns.{absent_of}
use Rattle.value_rollups.proofs.rollup_fns.rollup_absent.Goals as goal

pub returns-then-values-eq0 : goal.returns-then-values-eq0
unfolding absent_of
returns-then-values-eq0 c = rw (no-values _ c.if-values-eq0.true) refl

pub returns : goal.returns
unfolding absent_of
returns c = rw (some-values _ c.if-values-eq0.false) c.nan.ensures
