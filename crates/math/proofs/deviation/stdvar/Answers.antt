-- `math::deviation::stdvar` meets its contract. At each turn, what is taken in and what is left make the whole.
-- Assumes nothing.
use mathlib.Core.Path.{◌≡◌, refl, sym, ap, ◌∙◌}
use mathlib.Core.List.{List, [], ◌∷◌, foldl}
use mathlib.Core.Bool.{true, false}
use Prim.Native.Nat.{ℕ, ◌≤◌, ◌+◌}
use native.Mathlib.Omega.{arith}
use borrow.Author.Rules.{rules}
use borrow.Author.Tests.{eq-eqb, ne_eqb}
use Rattle.std.proofs.lemmas.Bool.{eqb-true}
use lib.Dec.{eqb}
use lib.ListN.{length, drop}
use lib.Ieee.{Float, nan, is_nan, binary64, of_bits}
use Rattle.ieee.specs.Patterns.{floats}
use Rattle.math.specs.Deviation.{Spread, spread_step, spread_with, variance, stdvar_of}
use Rattle.ieee.proofs.Folding.{values-turn, values-end}
use Rattle.math.proofs.deviation.stdvar.Invariants.{start}
use Rattle.math.proofs.deviation.stdvar.Goals as goal
use Rattle.math.proofs.deviation.stdvar.Goals.{then-not-is_nan, else-not-is_nan}

none : (vs : List ℕ) → eqb (length vs) 0 ≡ true → stdvar_of (floats vs) ≡ nan
unfolding floats stdvar_of
none [] h = refl
none (b ∷ bs) h = absurd (omega (arith, eqb-true (length (b ∷ bs)) 0 h))

one : (vs : List ℕ) → length vs ≡ 1 → stdvar_of (floats vs) ≡ of_bits binary64 0
unfolding floats stdvar_of
one [] h = absurd (omega arith)
one (b ∷ []) h = refl
one (b ∷ d ∷ bs) h = absurd (omega arith)

more : (vs : List ℕ) → eqb (length vs) 0 ≡ false → (length vs ≡ 1 → ⊥) → stdvar_of (floats vs) ≡ variance (foldl spread_step start (floats vs))
unfolding floats stdvar_of
more [] p q = cc
more (b ∷ []) p q = absurd (q refl)
more (b ∷ d ∷ bs) p q = refl

passed : (s : Spread) (x : Float) → is_nan x ≡ true → spread_step s x ≡ s
unfolding spread_step
passed s x e = rw e

taken : (s : Spread) (x : Float) → is_nan x ≡ false → spread_step s x ≡ spread_with s x
unfolding spread_step
taken s x e = rw e

-- every value taken in
ended : (s : Spread) (vs : List ℕ) (i : ℕ) → eqb (length vs) 0 ≡ false → (length vs ≡ 1 → ⊥) → length vs ≤ i
    → foldl spread_step s (floats (drop i vs)) ≡ foldl spread_step start (floats vs) → stdvar_of (floats vs) ≡ variance s
ended s vs i p q h e = more vs p q ∙ ap variance (sym e ∙ values-end spread_step s vs i h)

pub returns-then-is_empty : goal.returns-then-is_empty
returns-then-is_empty c = c.nan.ensures ∙ sym (none c.args.values.now (sym c.is_empty.ensures ∙ c.if-is_empty.true))

pub returns-then-values-eq1 : goal.returns-then-values-eq1
returns-then-values-eq1 c = sym (one c.args.values.now c.if-values-eq1.true)

pub loop-b-preserved : goal.loop-b-preserved
loop-b-preserved c =
    let values = c.args.values.now in
    let s : Spread = record { count = c.loop-b.count; avg = c.loop-b.avg; q = c.loop-b.q } in
    let x = c.value_of-v.result in
    let is_x = c.value_of-v.ensures in
    let next : foldl spread_step (spread_step s x) (floats (drop (c.loop-b.b-index + 1) values)) ≡ foldl spread_step start (floats values) = rw is_x (sym (values-turn spread_step s values c.loop-b.b-index (search rules)) ∙ c.loop-b.invariant.2) in
    elim c.if-not-is_nan.branch [
      | then-not-is_nan w ↦ (search rules, omega arith, rw (w.count-is, w.avg-is, w.q-is, w.of_count.ensures) (rw (taken s x (sym c.is_nan.ensures ∙ w.if-not-is_nan.true)) at next))
      | else-not-is_nan w ↦ (search rules, omega arith, rw (w.count-is, w.avg-is, w.q-is) (rw (passed s x (sym c.is_nan.ensures ∙ w.if-not-is_nan.false)) at next))
    ]

pub returns-then-count-eq0 : goal.returns-then-count-eq0
returns-then-count-eq0 c =
    let values = c.args.values.now in
    c.nan-then-count-eq0.ensures
    ∙ sym (ended _ values c.loop-b.b-index (sym c.is_empty.ensures ∙ c.if-is_empty.false) c.if-values-eq1.false c.loop-b-test.false c.loop-b.invariant.2 ∙ rw (eq-eqb c.loop-b.count 0 c.if-count-eq0.true))

pub returns : goal.returns
returns c =
    let values = c.args.values.now in
    sym (ended _ values c.loop-b.b-index (sym c.is_empty.ensures ∙ c.if-is_empty.false) c.if-values-eq1.false c.loop-b-test.false c.loop-b.invariant.2 ∙ rw (ne_eqb c.loop-b.count 0 c.if-count-eq0.false, c.of_count-2.ensures))
