-- `quantile::quantile` meets its contract: the first n entries are the kept values, sorted.
-- Assumes nothing.
use mathlib.Core.Path.{ap, ◌∙◌}
use native.Mathlib.Omega.{arith}
use lib.ListN.{length-take}
use Rattle.ieee.specs.Patterns.{floats}
use Rattle.ieee.proofs.Floats.{length-floats}
use Rattle.sort.proofs.Kept.{length-kept}
use Rattle.quantile.specs.Quantile.{quantile_sorted, quantile_of}
use Rattle.quantile.proofs.quantile.Goals as goal

pub slice_bounds-quantile_sorted-end : goal.slice_bounds-quantile_sorted-end
slice_bounds-quantile_sorted-end c = omega (arith, length-kept (floats c.args.values.now), length-floats c.args.values.now)

pub slice_bounds-quantile_sorted-end-2 : goal.slice_bounds-quantile_sorted-end-2
slice_bounds-quantile_sorted-end-2 c = simp length-take (omega (arith, length-kept (floats c.args.values.now), length-floats c.args.values.now))

pub returns-clause-value : goal.returns-clause-value
unfolding quantile_of
returns-clause-value c = c.quantile_sorted.ensures ∙ ap (quantile_sorted c.args.phi) c.prepare_for_quantile_float64-n.ensures.work_after
