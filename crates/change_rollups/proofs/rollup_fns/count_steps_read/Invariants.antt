use Prim.Native.Nat.{◌≤◌}
use mathlib.Core.List.{foldl}
use Rattle.ieee.specs.Patterns.{floats}
use Rattle.window.proofs.Folds.{Folded}
use Rattle.change_rollups.specs.RollupFns.{tally}
use Rattle.change_rollups.proofs.rollup_fns.count_steps_read.Given as goal

abbrev pub invariant-loop-b : goal.invariant-loop-b
invariant-loop-b g l =
    Folded (tally l.down) (floats l.values) (foldl (tally l.down) (l.prev_value, 0) (floats l.values)) (l.compared, l.n) l.b-index × (l.n ≤ l.b-index) × g.R.Reading.Reads l.compared
