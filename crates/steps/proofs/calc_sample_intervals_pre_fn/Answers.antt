-- `steps::calc_sample_intervals_pre_fn` meets its contract. What is written and the intervals still to write make the whole list; then the second is copied over the first.
-- Assumes nothing.
use Prim.Native.Nat.{ℕ, ◌≤◌, ◌<◌}
use mathlib.Core.Path.{◌≡◌, refl, ap, ◌∙◌}
use mathlib.Core.List.{List, [], ◌∷◌}
use native.Mathlib.Omega.{arith}
use borrow.Author.Rules.{rules}
use lib.ListN.{length, get_or, set, drop, drop_of_length-le}
use lib.IntN.{ℤ, pos}
use lib.Ieee.{Float, nan}
use mir.Syntax.{w64}
use mir.Val.{SFits}
use mir.Facts.{to_z-of_z}
use Rattle.ieee.specs.Patterns.{patterns}
use Rattle.steps.specs.Steps.{whole_seconds, intervals_from, second_twice}
use Rattle.times.proofs.Written.{Written, turn, done, left_at}
use Rattle.steps.proofs.calc_sample_intervals_pre_fn.Goals as goal

-- after the loop the whole list is written
written : (ts : List ℤ) (i : ℕ) (prepared : List ℕ) (prev : Float) → length ts ≤ i → Written (length ts) i prepared (patterns (intervals_from prev (drop i ts))) (patterns (intervals_from nan ts)) → prepared ≡ patterns (intervals_from nan ts)
unfolding intervals_from
written ts i prepared prev h w = done h (rw (drop_of_length-le ts {i = i} h) at w)

second : (xs : List Float) → 1 < length (patterns xs) → set (patterns xs) 0 (get_or (patterns xs) 1 0) ≡ patterns (second_twice xs)
second [] h = refl
second (x ∷ []) h = absurd (omega arith)
second (x ∷ y ∷ ys) h = refl

first : (xs : List Float) → length (patterns xs) ≤ 1 → patterns xs ≡ patterns (second_twice xs)
first [] h = refl
first (x ∷ []) h = refl
first (x ∷ y ∷ ys) h = absurd (omega arith)

pub loop-i-preserved : goal.loop-i-preserved
unfolding intervals_from
loop-i-preserved c =
    let ts = c.args.timestamps.now in
    let i = c.loop-i.i in
    let fits : SFits w64 (get_or ts i (pos 0)) = search rules in
    let read = c.whole_seconds-secs.ensures ∙ ap whole_seconds (to_z-of_z fits) in
    turn (omega arith) (rw (left_at ts i (pos 0) (omega arith), ← read) at c.loop-i.invariant) c.bits_of.ensures

pub returns-then-prepared-gt1 : goal.returns-then-prepared-gt1
returns-then-prepared-gt1 c = let e = written c.args.timestamps.now c.loop-i.i c.loop-i.prepared c.loop-i.prev c.loop-i-test.false c.loop-i.invariant in rw e (second (intervals_from nan c.args.timestamps.now) (rw e at c.if-prepared-gt1.true))

pub returns-else-prepared-gt1 : goal.returns-else-prepared-gt1
returns-else-prepared-gt1 c = let e = written c.args.timestamps.now c.loop-i.i c.loop-i.prepared c.loop-i.prev c.loop-i-test.false c.loop-i.invariant in rw e (first (intervals_from nan c.args.timestamps.now) (rw e at c.if-prepared-gt1.false))
