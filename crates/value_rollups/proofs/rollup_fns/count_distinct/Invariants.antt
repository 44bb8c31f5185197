use mathlib.Core.List.{foldl}
use Prim.Native.Nat.{◌+◌, ◌≤◌}
use lib.ListN.{drop}
use Rattle.window.specs.Window.{first_of}
use Rattle.window.proofs.Folds.{Folded}
use Rattle.value_rollups.specs.RollupFns.{dedup}
use Rattle.value_rollups.proofs.rollup_fns.count_distinct.Given as goal

abbrev pub invariant-loop-v : goal.invariant-loop-v
invariant-loop-v l = Folded dedup (drop 1 l.sorted) (foldl dedup (first_of l.sorted, 1) (drop 1 l.sorted)) (l.kept, l.n) l.v-index × (l.n ≤ (l.v-index + 1))
