-- `quantile::distance` meets its contract: the distance is NaN where the difference is.
-- Assumes nothing.
use Rattle.std.proofs.Common.{Some, None}
use mathlib.Core.Path.{◌≡◌, refl, sym, ◌∙◌}
use mathlib.Core.Bool.{true, false}
use lib.Ieee.{Float, binary64, is_nan, sub}
use Rattle.ieee.specs.Value.{abs_of}
use Rattle.ieee.proofs.Patterns.{abs-nan}
use Rattle.quantile.specs.Found.{if_number}
use Rattle.quantile.proofs.distance.Goals as goal

-- v is the value, and m the middle
module _ (v x m : Float) (is : v ≡ x) where
  gone : is_nan (sub binary64 v m) ≡ true → None ≡ if_number (abs_of (sub binary64 x m))
  gone h = rw (sym is, abs-nan (sub binary64 v m), h) refl

  left : (r : Float) → r ≡ abs_of (sub binary64 v m) → is_nan (sub binary64 v m) ≡ false → Some r ≡ if_number (abs_of (sub binary64 x m))
  left r e h = rw (sym is, e, abs-nan (sub binary64 v m), h) refl

pub returns-then-is_nan : goal.returns-then-is_nan
returns-then-is_nan c = gone _ _ c.args.middle c.value_of.ensures (sym c.is_nan.ensures.value ∙ c.if-is_nan.true)

pub returns-else-is_nan : goal.returns-else-is_nan
returns-else-is_nan c = left _ _ c.args.middle c.value_of.ensures c.magnitude.result c.magnitude.ensures (sym c.is_nan.ensures.value ∙ c.if-is_nan.false)
