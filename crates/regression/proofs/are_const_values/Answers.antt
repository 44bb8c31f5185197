-- `regression::are_const_values` meets its contract. At each turn, what is left after the last value decides.
-- Assumes nothing.
use mathlib.Core.Path.{◌≡◌, refl, sym, ◌∙◌}
use mathlib.Core.List.{List, [], ◌∷◌}
use mathlib.Core.Bool.{Bool, true, false}
use Prim.Native.Nat.{ℕ, ◌<◌, ◌+◌}
use native.Mathlib.Omega.{arith}
use borrow.Author.Rules.{rules}
use borrow.Author.Tests.{not-true, not-false}
use lib.ListN.{length, drop, get_or}
use lib.Ieee.{Float, eq, ne, binary64, of_bits}
use Rattle.ieee.specs.Patterns.{floats}
use Rattle.regression.specs.Regression.{const_after, are_const}
use Rattle.ieee.proofs.Floats.{floats-cons, floats-none}
use Rattle.regression.proofs.are_const_values.Goals as goal

none : (vs : List ℕ) → length vs ≡ 0 → true ≡ are_const (floats vs)
unfolding floats are_const
none [] h = refl
none (b ∷ bs) h = absurd (omega arith)

opened : (vs bs : List ℕ) (b : ℕ) (p : Float) → vs ≡ b ∷ bs → p ≡ of_bits binary64 b → const_after p (floats (drop 0 bs)) ≡ are_const (floats vs)
unfolding floats are_const
opened vs bs b p e h = rw (e, h)

-- one value further: it is equal to the one before it, or decides
same : (p x : Float) (xs : List Float) → ne x p ≡ false → const_after p (x ∷ xs) ≡ const_after x xs
unfolding const_after ne
same p x xs e = rw (not-false (eq x p) e)

other : (p x : Float) (xs : List Float) → ne x p ≡ true → const_after p (x ∷ xs) ≡ false
unfolding const_after ne
other p x xs e = rw (not-true (eq x p) e)

-- what is left, with the value that was read in front
next : (all : Bool) (vs : List ℕ) (p x : Float) (i : ℕ) → i < length vs → x ≡ of_bits binary64 (get_or vs i 0) → const_after p (floats (drop i vs)) ≡ all
    → const_after p (x ∷ floats (drop (i + 1) vs)) ≡ all
next all vs p x i h is inv = rw (is, ← floats-cons vs i h) inv

pub returns-in_default : goal.returns-in_default
returns-in_default c = none _ (search rules)

pub loop-b-init : goal.loop-b-init
loop-b-init c = opened _ _ _ _ c.in-Some.ensures.cases.0 c.value_of-v_prev.ensures

pub returns-then-v-v_prev : goal.returns-then-v-v_prev
returns-then-v-v_prev c = sym (other _ _ _ c.if-v-v_prev.true) ∙ next _ _ _ _ _ c.loop-b-test.true c.value_of-v.ensures c.loop-b.invariant

pub loop-b-preserved : goal.loop-b-preserved
loop-b-preserved c = sym (same _ _ _ c.if-v-v_prev.false) ∙ next _ _ _ _ _ c.loop-b-test.true c.value_of-v.ensures c.loop-b.invariant

pub returns : goal.returns
unfolding const_after
returns c = rw (floats-none c.in-Some.rest.now c.loop-b.b-index c.loop-b-test.false) at c.loop-b.invariant
