-- `change_rollups::rollup_fns::count_steps` meets its contract: std's `is_finite` is `finite`. The lemma for it stands in crossings too, since no
-- crate below both proves anything but about ieee.
-- Assumes nothing.
use mathlib.Core.Path.{◌≡◌, refl, sym, ◌∙◌}
use lib.Ieee.{Float, nan, inf, fin}
use lib.Ieee.Scale.{finite}
use Rattle.std.specs.Float.{float_is_finite}
use Rattle.change_rollups.proofs.rollup_fns.count_steps.Goals as goal

finite_is : (x : Float) → float_is_finite x ≡ finite x
unfolding float_is_finite
finite_is nan = refl
finite_is (inf s) = refl
finite_is (fin s m e) = refl

pub count_steps_read-requires-clause-before : goal.count_steps_read-requires-clause-before
count_steps_read-requires-clause-before c = sym (finite_is c.args.prev_value) ∙ sym c.is_finite.ensures.value ∙ c.if-is_finite.true
