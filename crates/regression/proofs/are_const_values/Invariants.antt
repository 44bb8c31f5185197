-- At each turn, what is left after the last value decides.
use mathlib.Core.Path.{◌≡◌}
use lib.ListN.{drop}
use Rattle.ieee.specs.Patterns.{floats}
use Rattle.regression.specs.Regression.{const_after, are_const}
use Rattle.regression.proofs.are_const_values.Given as goal

abbrev pub invariant-loop-b : goal.invariant-loop-b
invariant-loop-b l = const_after l.v_prev (floats (drop l.b-index l.rest)) ≡ are_const (floats l.values)
