-- `crossings::listed::Sides::is_crossing` meets its contract: it asks on which side each of the two values is.
-- Assumes nothing.
use mathlib.Core.Bool.{xor}
use Rattle.crossings.proofs.listed.Sides.is_crossing.Goals as goal

pub returns : goal.returns
unfolding xor
returns c = rw (← c.is_below-2.ensures, ← c.is_below.ensures)
