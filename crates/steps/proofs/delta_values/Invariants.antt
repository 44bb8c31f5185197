use Prim.Native.Nat.{◌+◌, ◌<◌}
use mathlib.Core.Path.{◌≡◌}
use mathlib.Core.Bool.{true, false}
use lib.ListN.{length, drop}
use lib.Ieee.{is_nan}
use lib.Ieee.Scale.{finite}
use Rattle.ieee.specs.Patterns.{patterns}
use Rattle.steps.specs.Steps.{deltas, deltas_from}
use Rattle.times.proofs.Written.{Written}
use Rattle.steps.proofs.delta_values.Given as goal

abbrev pub invariant-loop-j : goal.invariant-loop-j
invariant-loop-j g l =
    (l.j < length (g.N.Numbers.numbers l.values)) × (finite l.prev_value ≡ true) × (is_nan l.prev_delta ≡ false) × Written (length (g.N.Numbers.numbers l.values)) l.j l.prepared (patterns (deltas_from l.prev_delta l.prev_value (drop (l.j + 1) (g.N.Numbers.numbers l.values)))) (patterns (deltas (g.N.Numbers.numbers l.values)))
