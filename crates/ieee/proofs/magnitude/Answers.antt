-- `ieee::magnitude` meets its contract: the pattern without its highest bit is the value without its sign.
-- Assumes nothing.
use Rattle.std.proofs.Common.{◌≡◌, ◌%◌, ◌^◌, Bool, not, T, sym, ap, ◌∙◌, subst}
use lib.Ieee.{binary64, is_nan, of_bits, to_bits}
use lib.Ieee.Bits.{of_bits-to_bits, nan_bits_is}
use Rattle.ieee.specs.Value.{abs_of}
use Rattle.ieee.proofs.Patterns.{abs_is, abs-nan}
use Rattle.ieee.proofs.magnitude.Goals as goal

cut : (c : goal.Start) → of_bits binary64 (to_bits binary64 c.args.x % 2 ^ 63) ≡ abs_of c.args.x
cut c = abs_is (to_bits binary64 c.args.x) ∙ ap abs_of (of_bits-to_bits binary64 c.args.x (subst T (sym c.well_formed.0.1) tt))

pub float_from_bits-result : goal.float_from_bits-result
float_from_bits-result c = subst (λ (b : Bool). T (not b)) (sym (nan_bits_is binary64 _ ∙ ap is_nan (cut c) ∙ abs-nan _ ∙ c.requires)) tt

pub returns : goal.returns
returns c = cut c
