-- `change_rollups::rollup_fns::steps_over` meets its contract: what `seeded` is handed computes `steps_from`.
-- Assumes nothing.
use borrow.Author.Rules.{rules}
use Rattle.change_rollups.specs.RollupFns.{steps_from, steps_of}
use Rattle.change_rollups.proofs.rollup_fns.steps_over.Goals as goal

pub returns : goal.returns
unfolding steps_of
returns c = c.seeded.ensures (steps_from c.args.down) (λ s l r h. search rules)
