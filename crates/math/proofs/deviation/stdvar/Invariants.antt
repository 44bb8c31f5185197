use mathlib.Core.Path.{◌≡◌}
use mathlib.Core.List.{foldl}
use Prim.Native.Nat.{◌≤◌}
use lib.ListN.{length, drop}
use lib.Ieee.{binary64, of_bits}
use Rattle.ieee.specs.Patterns.{floats}
use Rattle.math.specs.Deviation.{Spread, spread_step}
use Rattle.math.proofs.deviation.stdvar.Given as goal

-- nothing taken in
abbrev pub start : Spread
start = record { count = 0; avg = of_bits binary64 0; q = of_bits binary64 0 }

abbrev pub invariant-loop-b : goal.invariant-loop-b
invariant-loop-b l = (l.b-index ≤ length l.values) × (l.count ≤ l.b-index) × (foldl spread_step (record { count = l.count; avg = l.avg; q = l.q }) (floats (drop l.b-index l.values)) ≡ foldl spread_step start (floats l.values))
