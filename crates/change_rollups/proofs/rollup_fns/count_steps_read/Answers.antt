-- `change_rollups::rollup_fns::count_steps_read` meets its contract: it folds `tally` over the values, and counts at most one for each.
-- Assumes nothing.
use mathlib.Core.Bool.{Bool, true, false, not, ◌&&◌, false≢true}
use mathlib.Core.Path.{◌≡◌, ap, sym, ◌∙◌}
use lib.Ieee.{Float}
use native.Mathlib.Omega.{arith}
use Prim.Native.Nat.{ℕ}
use borrow.Author.Tests.{not-true}
use Rattle.window.specs.Window.{count_f}
use Rattle.window.proofs.Folds.{turn, done-values, value}
use Rattle.change_rollups.specs.RollupFns.{steps_from}
use Rattle.change_rollups.proofs.rollup_fns.count_steps_read.Goals as goal
use Rattle.change_rollups.proofs.rollup_fns.count_steps_read.Goals.{then-is_passed_over, else-is_passed_over+then-is_below_tolerance+then-not-beyond, else-is_passed_over+then-is_below_tolerance+else-not-beyond, else-is_passed_over+else-is_below_tolerance+then-beyond, else-is_passed_over+else-is_below_tolerance+else-beyond}

-- a step that is passed over goes another way
another-way : (down beyond : Bool) → (down && not beyond) ≡ true → beyond ≡ false
another-way true b e = not-true b e
another-way false b e = absurd (false≢true e)

pub loop-b-preserved : goal.loop-b-preserved
loop-b-preserved g c =
    let s = c.loop-b in
    let at = value _ _ c.loop-b-test.true in
    let v = c.value_of-v.ensures in
    let goes = c.is_beyond-beyond.result in
    let beyond = c.is_beyond-beyond.ensures in
    let passed : c.is_passed_over.result ≡ true → goes ≡ false = λ h. another-way c.args.down goes (sym c.is_passed_over.ensures ∙ h) in
    let number : g.R.Reading.Reads c.value_of-v.result = rw v (c.requires.each s.b-index c.loop-b-test.true) in
    elim c.if-is_passed_over.branch [
      | then-is_passed_over w ↦ (turn s.invariant.0 at (rw (← v, ← beyond, passed w.if-is_passed_over.true) (cc)), omega (arith, w.n-is), rw w.compared-is number)
      | else-is_passed_over+then-is_below_tolerance+then-not-beyond w ↦
          (turn s.invariant.0 at (rw (← v, ← beyond, w.if-not-beyond.true) (cc)), omega (arith, w.n-is), rw w.compared-is number)
      | else-is_passed_over+then-is_below_tolerance+else-not-beyond w ↦
          (turn s.invariant.0 at (rw (← v, ← beyond, w.if-not-beyond.false, ← w.is_below_tolerance.ensures, w.if-is_below_tolerance.true) (cc)), omega (arith, w.n-is), rw w.compared-is s.invariant.2)
      | else-is_passed_over+else-is_below_tolerance+then-beyond w ↦
          (turn s.invariant.0 at (rw (← v, ← beyond, w.if-beyond.true, ← w.is_below_tolerance.ensures, w.if-is_below_tolerance.false) (cc)), omega (arith, w.n-is), rw w.compared-is number)
      | else-is_passed_over+else-is_below_tolerance+else-beyond w ↦
          (turn s.invariant.0 at (rw (← v, ← beyond, w.if-beyond.false) (cc)), omega (arith, w.n-is), rw w.compared-is number)
    ]

pub returns : goal.returns
unfolding steps_from
returns g c = c.of_count.ensures ∙ ap (λ (s : Float × ℕ). count_f s.1) (done-values _ c.loop-b-test.false c.loop-b.invariant.0)
