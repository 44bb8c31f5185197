-- `time_rollups::rollup_fns::rollup_tfirst` meets its contract: the first time is given in seconds.
-- Assumes nothing.
use mathlib.Core.Path.{◌∙◌}
use Rattle.time_rollups.proofs.Ends.{first-time}
use Rattle.time_rollups.proofs.rollup_fns.rollup_tfirst.Goals as goal

pub returns : goal.returns
returns c = (cc) ∙ first-time c.args.timestamps.now
