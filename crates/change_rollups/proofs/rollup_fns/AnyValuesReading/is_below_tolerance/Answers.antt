-- `change_rollups::rollup_fns::AnyValues::is_below_tolerance` meets its contract: a step that is NaN is not below anything, and any other is compared as the definition has it.
-- Assumes nothing.
use mathlib.Core.Path.{◌≡◌, refl, sym, ◌∙◌}
use mathlib.Core.Bool.{false}
use lib.Ieee.{Float, nan, inf, fin, binary64, is_nan, lt, sub}
use Rattle.ieee.specs.Value.{abs_of}
use Rattle.ieee.proofs.Patterns.{nan_is}
use Rattle.change_rollups.proofs.rollup_fns.AnyValuesReading.is_below_tolerance.Goals as goal

-- a step that is a number is one from a number
number-left : (v p : Float) → is_nan (sub binary64 v p) ≡ false → is_nan v ≡ false
unfolding is_nan sub
number-left nan p e = e
number-left (inf s) p e = refl
number-left (fin s m d) p e = refl

pub returns-then-is_nan : goal.returns-then-is_nan
unfolding abs_of lt
returns-then-is_nan c = rw (nan_is _ (sym c.is_nan.ensures ∙ c.if-is_nan.true)) (refl)

pub magnitude-tolerance-requires : goal.magnitude-tolerance-requires
magnitude-tolerance-requires c = number-left _ c.args.prev_value (sym c.is_nan.ensures ∙ c.if-is_nan.false)
