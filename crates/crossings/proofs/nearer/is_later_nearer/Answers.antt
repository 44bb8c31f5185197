-- `crossings::nearer::is_later_nearer` meets its contract: both differences fit, and neither is negative.
-- Assumes nothing.
use mir.Facts.{to_z-of_z}
use mir.Syntax.{w64}
use mir.Val.{SFits}
use lib.IntN.{◌-ℤ◌}
use Rattle.times.proofs.Milli.{within-fits, within-sub}
use Rattle.crossings.proofs.Distances.{nearer-test}
use Rattle.crossings.proofs.nearer.is_later_nearer.Goals as goal

module _ (s : goal.Start) where
  over : SFits w64 (s.args.later -ℤ s.args.time)
  over = within-fits tt (within-sub s.requires.2 s.requires.0)

  under : SFits w64 (s.args.time -ℤ s.args.earlier)
  under = within-fits tt (within-sub s.requires.0 s.requires.1)

pub returns : goal.returns
returns s =
    rw (to_z-of_z s.ranges.later, to_z-of_z s.ranges.time, to_z-of_z s.ranges.earlier, to_z-of_z (over s), to_z-of_z (under s))
    (nearer-test s.args.earlier s.args.time s.args.later s.requires.3 s.requires.4)
