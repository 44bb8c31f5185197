-- `value_rollups::rollup_fns::rollup_present` meets its contract: the test decides.
-- Assumes nothing.
use mathlib.Core.Path.{refl}
use Rattle.window.proofs.Window.{no-values, some-values}
use Rattle.value_rollups.specs.RollupFns.{present_of}
use Rattle.value_rollups.proofs.rollup_fns.rollup_present.Goals as goal

pub returns-then-values-eq0 : goal.returns-then-values-eq0
unfolding present_of
returns-then-values-eq0 c = rw (no-values _ c.if-values-eq0.true) c.nan.ensures

pub returns : goal.returns
unfolding present_of
returns c = rw (some-values _ c.if-values-eq0.false) refl
