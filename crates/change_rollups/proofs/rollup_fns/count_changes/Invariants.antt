use mathlib.Core.List.{foldl}
use Prim.Native.Nat.{◌≤◌}
use lib.ListN.{length}
use Rattle.ieee.specs.Patterns.{floats}
use Rattle.window.proofs.Folds.{Folded}
use Rattle.change_rollups.specs.RollupFns.{change}
use Rattle.change_rollups.proofs.rollup_fns.count_changes.Given as goal

abbrev pub invariant-loop-b : goal.invariant-loop-b
invariant-loop-b l =
    Folded change (floats l.values) (foldl change (l.prev_value, 0) (floats l.values)) (l.compared, l.n) l.b-index × (l.n ≤ l.b-index) × (l.b-index ≤ length l.values)
