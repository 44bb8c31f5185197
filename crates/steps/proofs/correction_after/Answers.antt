-- `steps::correction_after` meets its contract. Its branches are those of the definition.
-- Assumes nothing.
use Rattle.steps.specs.Steps.{grown}
use Rattle.steps.proofs.correction_after.Goals as goal

pub returns-then-d-p : goal.returns-then-d-p
unfolding grown
returns-then-d-p c = rw (c.if-d.true, c.if-d-p.true)

pub returns-then-d : goal.returns-then-d
unfolding grown
returns-then-d c = rw (c.if-d.true, c.if-d-p.false)

pub returns : goal.returns
unfolding grown
returns c = rw c.if-d.false
