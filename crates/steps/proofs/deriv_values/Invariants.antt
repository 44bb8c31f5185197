use Prim.Native.Nat.{◌+◌, ◌<◌}
use lib.ListN.{length, drop}
use Rattle.times.specs.Milli.{time_limit, Within}
use Rattle.ieee.specs.Patterns.{patterns}
use Rattle.steps.specs.Steps.{derivs, derivs_from}
use Rattle.times.proofs.Written.{Written}
use Rattle.steps.proofs.deriv_values.Given as goal

abbrev pub invariant-loop-j : goal.invariant-loop-j
invariant-loop-j g l =
    (l.j < length (g.N.Numbers.numbers l.values)) × Within time_limit l.slope.ts × Written (length (g.N.Numbers.numbers l.values)) l.j l.prepared (patterns (derivs_from l.slope (drop (l.j + 1) l.timestamps) (drop (l.j + 1) (g.N.Numbers.numbers l.values)))) (patterns (derivs l.timestamps (g.N.Numbers.numbers l.values)))
