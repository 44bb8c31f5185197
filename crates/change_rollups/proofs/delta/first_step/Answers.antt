-- `change_rollups::delta::first_step` meets its contract: the tests choose the value after the first.
-- Assumes nothing.
use borrow.Author.Tests.{lt-ltb, le-ltb}
use lib.Ieee.{nan}
use Rattle.ieee.proofs.Floats.{length-floats, get_or-floats}
use Rattle.change_rollups.specs.Delta.{first_step}
use Rattle.change_rollups.proofs.delta.first_step.Goals as goal

pub returns-then-values-gt1 : goal.returns-then-values-gt1
unfolding first_step
returns-then-values-gt1 c = rw (length-floats, lt-ltb _ _ c.if-values-gt1.true, get_or-floats _ 1 nan c.if-values-gt1.true, ← c.value_at.ensures, ← c.first.ensures)

pub returns-then-is_nan : goal.returns-then-is_nan
unfolding first_step
returns-then-is_nan c = rw (length-floats, le-ltb _ _ c.if-values-gt1.false, ← c.is_nan.ensures, c.if-is_nan.true)

pub returns : goal.returns
unfolding first_step
returns c = rw (length-floats, le-ltb _ _ c.if-values-gt1.false, ← c.is_nan.ensures, c.if-is_nan.false, ← c.first-2.ensures)
