-- `change_rollups::delta::starts_low` meets its contract: it is the definition's comparison.
-- Assumes nothing.
use Rattle.change_rollups.specs.Delta.{starts_low}
use Rattle.change_rollups.proofs.delta.starts_low.Goals as goal

pub returns : goal.returns
unfolding starts_low
returns c = rw (← c.first_step-d.ensures, ← c.abs.ensures, ← c.first.ensures, ← c.abs-2.ensures)
