-- `regression::fit` meets its contract: its operations are those of the definition in their order, and the arm that is taken is the definition's.
-- Assumes nothing.
use mathlib.Core.Path.{◌≡◌}
use Rattle.regression.specs.Regression.{slope_of, line_of}
use Rattle.regression.proofs.fit.Goals as goal
use Rattle.regression.proofs.fit.Goals.{then-abs, else-abs}

pub returns : goal.returns
unfolding line_of
returns c =
    let is = c.abs.ensures in
    let k : c.if-abs.k ≡ slope_of c.args.s c.args.n = elim c.if-abs.branch [
      | then-abs w ↦ rw (rw is at w.if-abs.true) w.k-is
      | else-abs w ↦ rw (rw is at w.if-abs.false) w.k-is
    ] in
    rw k
