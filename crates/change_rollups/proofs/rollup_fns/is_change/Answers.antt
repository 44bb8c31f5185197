-- `change_rollups::rollup_fns::is_change` meets its contract: values that are equal are no change, and of others the tolerance decides.
-- Assumes nothing.
use lib.Ieee.{ne}
use Rattle.change_rollups.proofs.rollup_fns.is_change.Goals as goal

pub returns-then-v-prev_value : goal.returns-then-v-prev_value
unfolding ne
returns-then-v-prev_value c = rw c.if-v-prev_value.true

pub returns : goal.returns
unfolding ne
returns c = rw (c.if-v-prev_value.false, ← c.is_below_tolerance.ensures)
