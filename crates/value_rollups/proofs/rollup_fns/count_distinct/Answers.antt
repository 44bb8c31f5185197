-- `value_rollups::rollup_fns::count_distinct` meets its contract: it folds `dedup` over the sorted values, and counts at most one for each.
-- Assumes nothing.
use mathlib.Core.Path.{ap}
use native.Mathlib.Omega.{arith}
use Prim.Native.Nat.{ℕ}
use lib.ListN.{drop, get_or}
use borrow.Author.Rules.{rules}
use lib.Ieee.{Float, nan, eq, ne}
use borrow.Author.Tests.{not-true, not-false}
use Rattle.window.proofs.Window.{first-at}
use Rattle.window.proofs.Folds.{start, turn, done, item}
use Rattle.value_rollups.specs.RollupFns.{distinct_from}
use Rattle.value_rollups.proofs.rollup_fns.count_distinct.Goals as goal
use Rattle.value_rollups.proofs.rollup_fns.count_distinct.Goals.{then-v-kept, else-v-kept}

pub loop-v-init : goal.loop-v-init
loop-v-init c = (rw (first-at) start, search rules)

pub loop-v-preserved : goal.loop-v-preserved
unfolding ne
loop-v-preserved c =
    let l = drop 1 c.args.sorted.now in
    let k = c.loop-v.v-index in
    let at = item l k nan (rw c.rest-v-items.ensures at c.loop-v-test.true) in
    let same = eq (get_or l k nan) c.loop-v.kept in
    let here = c.rest-v-items.ensures in
    elim c.if-v-kept.branch [
      | then-v-kept w ↦ (turn c.loop-v.invariant.0 at (rw (not-true same (rw here at w.if-v-kept.true), rw here at w.kept-is, w.n-is)), omega (arith, w.n-is))
      | else-v-kept w ↦ (turn c.loop-v.invariant.0 at (rw (not-false same (rw here at w.if-v-kept.false)) (cc)), omega (arith, w.n-is))
    ]

pub returns : goal.returns
unfolding distinct_from
returns c = ap (λ (s : Float × ℕ). s.1) (done (rw c.rest-v-items.ensures at c.loop-v-test.false) c.loop-v.invariant.0)
