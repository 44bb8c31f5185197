-- `change_rollups::rollup_fns::slide_from_predecessor` meets its contract: what `seeded` is handed computes `slide_from`.
-- Assumes nothing.
use borrow.Author.Rules.{rules}
use Rattle.change_rollups.specs.RollupFns.{slide_from, slide_of}
use Rattle.change_rollups.proofs.rollup_fns.slide_from_predecessor.Goals as goal

pub returns : goal.returns
unfolding slide_of
returns c = c.seeded.ensures (slide_from c.args.down) (λ s l r h. search rules)
