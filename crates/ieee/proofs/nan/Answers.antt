-- `ieee::nan` meets its contract: the constant's pattern is a NaN's.
-- Assumes nothing.
use Rattle.std.proofs.Common.{refl}
use lib.Ieee.{of_bits}
use Rattle.ieee.proofs.nan.Goals as goal

pub returns : goal.returns
unfolding of_bits
returns c = refl
