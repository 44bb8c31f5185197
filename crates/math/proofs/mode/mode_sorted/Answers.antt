-- `math::mode::mode_sorted` meets its contract. At each turn, the runs so far and the samples to come make the whole.
-- Assumes nothing.
use mathlib.Core.Path.{◌≡◌, sym, ap, ◌∙◌}
use mathlib.Core.List.{List, foldl}
use mathlib.Core.Bool.{true, false}
use Prim.Native.Nat.{ℕ, ◌≤◌, ◌+◌}
use native.Mathlib.Omega.{arith}
use borrow.Author.Rules.{rules}
use lib.ListN.{length, drop, get_or}
use lib.Ieee.{Float, nan, eq}
use Rattle.math.specs.Mode.{Runs, longest, mode_with, run_step, mode_sorted}
use Rattle.ieee.proofs.Folding.{fold-turn, fold_end}
use Rattle.math.proofs.mode.mode_sorted.Invariants.{before}
use Rattle.math.proofs.mode.mode_sorted.Goals as goal
use Rattle.math.proofs.mode.mode_sorted.Goals.{then-prev-x, else-prev-x+then-outdone, else-prev-x+else-outdone}

same-run : (s : Runs) (x : Float) → eq s.prev x ≡ true → run_step s x ≡ record { prev = s.prev; run = s.run + 1; most = s.most; mode = s.mode }
unfolding run_step
same-run s x e = rw e

new-run : (s : Runs) (x : Float) → eq s.prev x ≡ false → run_step s x ≡ record { prev = x; run = 1; most = longest s; mode = mode_with s }
unfolding run_step
new-run s x e = rw e

-- every sample gone through
ended : (prev : Float) (s : Runs) (a : List Float) (i : ℕ) → length a ≤ i → foldl run_step s (drop i a) ≡ foldl run_step (before prev) a → mode_sorted prev a ≡ mode_with s
unfolding mode_sorted
ended prev s a i h e = ap mode_with (sym e ∙ fold_end run_step s a i h)

pub loop-x-preserved : goal.loop-x-preserved
loop-x-preserved c =
    let a : List Float = c.args.a.now in
    let x = get_or a c.loop-x.x-index nan in
    let s : Runs = record { prev = c.loop-x.prev; run = c.loop-x.run; most = c.loop-x.d_max; mode = c.loop-x.mode } in
    let next : foldl run_step (run_step s x) (drop (c.loop-x.x-index + 1) a) ≡ foldl run_step (before c.args.prev_value) a = sym (fold-turn run_step s a c.loop-x.x-index nan (search rules)) ∙ c.loop-x.invariant.2 in
    elim c.if-prev-x.branch [
      | then-prev-x w ↦ (search rules, omega arith, rw (w.prev-is, w.run-is, w.d_max-is, w.mode-is) (rw (same-run s x w.if-prev-x.true) at next))
      | else-prev-x+then-outdone w ↦
          (search rules, omega arith, rw (w.prev-is, w.run-is, w.d_max-is, w.mode-is) (rw (new-run s x w.if-prev-x.false, sym w.outdone.ensures ∙ w.if-outdone.true) at next))
      | else-prev-x+else-outdone w ↦
          (search rules, omega arith, rw (w.prev-is, w.run-is, w.d_max-is, w.mode-is) (rw (new-run s x w.if-prev-x.false, sym w.outdone.ensures ∙ w.if-outdone.false) at next))
    ]

pub returns-then-outdone-2 : goal.returns-then-outdone-2
returns-then-outdone-2 c =
    sym (ended c.args.prev_value _ c.args.a.now c.loop-x.x-index c.loop-x-test.false c.loop-x.invariant.2 ∙ rw (sym c.outdone-2.ensures ∙ c.if-outdone-2.true))

pub returns : goal.returns
returns c = sym (ended c.args.prev_value _ c.args.a.now c.loop-x.x-index c.loop-x-test.false c.loop-x.invariant.2 ∙ rw (sym c.outdone-2.ensures ∙ c.if-outdone-2.false))
