-- `time_rollups::deriv::slope` may take its two times from each other.
-- Assumes nothing.
use lib.IntN.{pos}
use Rattle.window.specs.Window.{last_or}
use Rattle.window.proofs.Times.{apart, last-in}
use Rattle.time_rollups.proofs.deriv.slope.Goals as goal

pub seconds_between-requires : goal.seconds_between-requires
seconds_between-requires c =
    let ts = c.args.timestamps.now in
    rw c.last_or.ensures (apart (last_or (pos 0) ts) c.args.t_start (last-in ts c.requires.times) c.requires.start)
