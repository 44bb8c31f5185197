-- `math::mode::mode_no_nans` meets its contract: it is the mode of the sorted values.
-- Assumes nothing.
use mathlib.Core.Path.{ap, ◌∙◌}
use Rattle.math.specs.Mode.{mode_sorted, mode_of}
use Rattle.math.proofs.mode.mode_no_nans.Goals as goal

pub returns-clause-value : goal.returns-clause-value
unfolding mode_of
returns-clause-value c = c.mode_sorted.ensures ∙ ap (mode_sorted c.args.prev_value) c.sort_values.ensures.work_after
