-- `change_rollups::rollup_fns::count_changes` meets its contract: it folds `change` over the values, and counts at most one for each.
-- Assumes nothing.
use mathlib.Core.Path.{ap}
use lib.Ieee.{Float}
use native.Mathlib.Omega.{arith}
use Prim.Native.Nat.{ℕ}
use Rattle.window.proofs.Folds.{turn, done-values, value}
use Rattle.change_rollups.specs.RollupFns.{changes_from}
use Rattle.change_rollups.proofs.rollup_fns.count_changes.Goals as goal
use Rattle.change_rollups.proofs.rollup_fns.count_changes.Goals.{then-is_change, else-is_change}

pub loop-b-preserved : goal.loop-b-preserved
loop-b-preserved c =
    let s = c.loop-b in
    let at = value _ _ c.loop-b-test.true in
    elim c.if-is_change.branch [
      | then-is_change w ↦ (turn s.invariant.0 at (rw (← c.value_of-v.ensures, ← c.is_change.ensures, w.if-is_change.true) (cc)), omega (arith, w.n-is), omega arith)
      | else-is_change w ↦ (turn s.invariant.0 at (rw (← c.value_of-v.ensures, ← c.is_change.ensures, w.if-is_change.false) (cc)), omega (arith, w.n-is), omega arith)
    ]

pub returns-clause-counted : goal.returns-clause-counted
unfolding changes_from
returns-clause-counted c = ap (λ (s : Float × ℕ). s.1) (done-values _ c.loop-b-test.false c.loop-b.invariant.0)
