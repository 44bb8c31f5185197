-- `steps::Counter::new` meets its contract: the bits of std's constant are those of −∞.
-- Assumes nothing.
use mathlib.Core.Path.{refl}
use lib.Ieee.{of_bits}
use Rattle.steps.proofs.Counter.new.Goals as goal

pub returns : goal.returns
unfolding of_bits
returns c = refl
