use lib.ListN.{length, drop}
use lib.Ieee.{nan}
use Rattle.ieee.specs.Patterns.{patterns}
use Rattle.steps.specs.Steps.{intervals_from}
use Rattle.times.proofs.Written.{Written}
use Rattle.steps.proofs.calc_sample_intervals_pre_fn.Given as goal

abbrev pub invariant-loop-i : goal.invariant-loop-i
invariant-loop-i l =
    Written (length l.timestamps) l.i l.prepared (patterns (intervals_from l.prev (drop l.i l.timestamps))) (patterns (intervals_from nan l.timestamps))
