use mathlib.Core.Path.{◌≡◌}
use mathlib.Core.List.{map}
use lib.Ieee.{binary64, of_int}
use lib.ListN.{take}
use Rattle.config.specs.Estimate.{distances}
use Rattle.config.proofs.estimate.first_intervals.Given as goal

abbrev pub invariant-loop-i : goal.invariant-loop-i
invariant-loop-i l = take l.i l.work ≡ map (of_int binary64) (take l.i (distances l.times.slice.now))
