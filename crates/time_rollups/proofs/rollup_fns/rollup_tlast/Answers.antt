-- `time_rollups::rollup_fns::rollup_tlast` meets its contract: the last time is given in seconds.
-- Assumes nothing.
use mathlib.Core.Path.{◌∙◌}
use Rattle.time_rollups.proofs.Ends.{last-time}
use Rattle.time_rollups.proofs.rollup_fns.rollup_tlast.Goals as goal

pub returns : goal.returns
returns c = (cc) ∙ last-time c.args.timestamps.now
