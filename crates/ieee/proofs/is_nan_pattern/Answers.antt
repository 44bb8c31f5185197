-- `ieee::is_nan_pattern` meets its contract. With the sign's bit taken off, a NaN's pattern is a number above the infinity's (`nan_bits_above`).
-- Assumes nothing.
use Rattle.std.proofs.Common.{sym, ◌∙◌}
use lib.Ieee.{binary64}
use lib.Ieee.Bits.{nan_bits_above, nan_bits_is}
use Rattle.ieee.proofs.is_nan_pattern.Goals as goal

pub returns : goal.returns
returns c = sym (nan_bits_above binary64 c.args.b) ∙ nan_bits_is binary64 c.args.b
