-- What is summed and what is left make the whole.
use Rattle.std.proofs.Common.{◌≡◌, drop}
use Rattle.ieee.specs.Patterns.{floats}
use Rattle.regression.specs.Regression.{no_sums, sums_from}
use Rattle.regression.proofs.sum_up.Given as goal

abbrev pub invariant-loop-i : goal.invariant-loop-i
invariant-loop-i l = sums_from l.intercept_time l.sums (drop l.i l.timestamps) (floats (drop l.i l.values)) ≡ sums_from l.intercept_time no_sums l.timestamps (floats l.values)
