-- `steps::correction_without_jumps` meets its contract. Its selects are those of the definition, but that −0.0 is added where nothing grows.
-- Assumes nothing.
use mathlib.Core.Path.{◌≡◌, sym, subst, ◌∙◌}
use lib.Dec.{T}
use lib.Ieee.{neg, of_bits}
use Rattle.ieee.proofs.Unrounded.{plus-minus-zero}
use Rattle.steps.specs.Steps.{fallen, grown}
use Rattle.steps.proofs.correction_without_jumps.Goals as goal
use Rattle.steps.proofs.correction_without_jumps.Goals.{then-d-p, else-d-p, then-d, else-d}

pub returns : goal.returns
unfolding grown neg of_bits
returns c =
    let fallen-is : c.if-d-p.fallen ≡ fallen c.args.p c.args.v =
    elim c.if-d-p.branch [ then-d-p w ↦ w.fallen-is ∙ rw w.if-d-p.true | else-d-p w ↦ w.fallen-is ∙ rw w.if-d-p.false ] in
    elim c.if-d.branch [
      | then-d w ↦ rw (w.more-is, w.if-d.true, fallen-is)
      | else-d w ↦ rw (w.more-is, w.if-d.false) (plus-minus-zero c.args.c (subst T (sym c.well_formed.0.1) tt))
    ]
