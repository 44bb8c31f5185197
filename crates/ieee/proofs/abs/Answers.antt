-- `ieee::abs` meets its contract: NaN is set apart, and of any other value it is the magnitude.
-- Assumes nothing.
use Rattle.std.proofs.Common.{◌≡◌, sym, ◌∙◌}
use lib.Ieee.{nan}
use Rattle.ieee.specs.Value.{abs_of}
use Rattle.ieee.proofs.Patterns.{nan_is}
use Rattle.ieee.proofs.abs.Goals as goal

pub returns-then-is_nan : goal.returns-then-is_nan
unfolding abs_of
returns-then-is_nan c = let e : c.args.x ≡ nan = nan_is _ (sym c.is_nan.ensures.value ∙ c.if-is_nan.true) in rw e
