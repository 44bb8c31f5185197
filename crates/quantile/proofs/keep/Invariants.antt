use Prim.Native.Nat.{◌≤◌}
use lib.Ieee.{Float}
use Rattle.quantile.specs.Found.{Finds}
use Rattle.quantile.proofs.Kept.{Keeping}
use Rattle.quantile.proofs.keep.Given as goal

abbrev pub invariant-loop-b : goal.invariant-loop-b
invariant-loop-b g l = record {
  few : l.n ≤ l.b-index;
  keeping : (of : Float → Float) → Finds (goal.F-post g l.find) of → Keeping of l.values l.initial.work l.work l.n l.b-index;
}
