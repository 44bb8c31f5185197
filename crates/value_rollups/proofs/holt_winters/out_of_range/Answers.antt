-- `value_rollups::holt_winters::out_of_range` meets its contract: the two comparisons are the definition's.
-- Assumes nothing.
use mathlib.Core.Path.{refl}
use Rattle.value_rollups.specs.HoltWinters.{out_of_range}
use Rattle.value_rollups.proofs.holt_winters.out_of_range.Goals as goal

pub returns-then-x : goal.returns-then-x
unfolding out_of_range
returns-then-x c = rw c.if-x.true refl

pub returns : goal.returns
unfolding out_of_range
returns c = rw c.if-x.false refl
