-- `value_rollups::rollup_fns::rollup_distinct` meets its contract: `count_distinct` is handed the sorted values.
-- Assumes nothing.
use mathlib.Core.Path.{◌∙◌, ap}
use Rattle.window.specs.Window.{count_f}
use Rattle.window.proofs.Window.{no-values, some-values}
use Rattle.value_rollups.specs.RollupFns.{distinct_from, distinct_of}
use Rattle.value_rollups.proofs.rollup_fns.rollup_distinct.Goals as goal

pub returns-then-values-eq0 : goal.returns-then-values-eq0
unfolding distinct_of
returns-then-values-eq0 c = rw (no-values _ c.if-values-eq0.true) c.nan.ensures

pub returns : goal.returns
unfolding distinct_of
returns c =
    rw (some-values _ c.if-values-eq0.false)
    (c.of_count.ensures ∙ ap count_f (c.count_distinct.ensures ∙ ap distinct_from c.sort_values.ensures.work_after))
