-- `ieee::number_of` meets its contract: the pattern is no NaN's.
-- Assumes nothing.
use Rattle.std.proofs.Common.{Bool, not, T, sym, ◌∙◌, subst}
use lib.Ieee.{binary64}
use lib.Ieee.Bits.{nan_bits_is}
use Rattle.ieee.proofs.number_of.Goals as goal

pub float_from_bits-result : goal.float_from_bits-result
float_from_bits-result c = subst (λ (t : Bool). T (not t)) (sym (nan_bits_is binary64 c.args.b ∙ c.requires)) tt
