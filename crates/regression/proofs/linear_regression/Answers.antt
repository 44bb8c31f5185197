-- `regression::linear_regression` meets its contract: it makes the tests of the definition.
-- Assumes nothing.
use mathlib.Core.Path.{◌≡◌, refl, sym, ◌∙◌}
use mathlib.Core.List.{List, [], ◌∷◌}
use mathlib.Core.Bool.{true, false}
use Prim.Native.Nat.{ℕ}
use native.Mathlib.Omega.{arith}
use lib.IntN.{ℤ, pos}
use mir.Syntax.{w64}
use mir.ValLaws.{to_z-of_z}
use lib.ListN.{length, get_or, length-map}
use lib.Ieee.{nan, binary64, of_bits, of_int}
use Rattle.ieee.specs.Patterns.{floats}
use Rattle.regression.specs.Regression.{are_const, no_sums, sums_from, line_of, regression_of}
use Rattle.regression.proofs.linear_regression.Goals as goal

none : (vs : List ℕ) (ts : List ℤ) (t : ℤ) → length vs ≡ 0 → regression_of (floats vs) ts t ≡ record { v = nan; k = nan }
unfolding floats regression_of
none [] ts t h = refl
none (b ∷ bs) ts t h = absurd (omega arith)

const : (vs : List ℕ) (ts : List ℤ) (t : ℤ) → (length vs ≡ 0 → ⊥) → are_const (floats vs) ≡ true → regression_of (floats vs) ts t ≡ record { v = of_bits binary64 (get_or vs 0 0); k = of_bits binary64 0 }
unfolding floats regression_of
const [] ts t some e = absurd (some refl)
const (b ∷ bs) ts t some e = rw e

sloped : (vs : List ℕ) (ts : List ℤ) (t : ℤ) → (length vs ≡ 0 → ⊥) → are_const (floats vs) ≡ false → regression_of (floats vs) ts t ≡ line_of (sums_from t no_sums ts (floats vs)) (of_int binary64 (pos (length vs)))
unfolding floats regression_of
sloped [] ts t some e = absurd (some refl)
sloped (b ∷ bs) ts t some e = rw (e, length-map bs (of_bits binary64))

pub returns-then-n-eq0 : goal.returns-then-n-eq0
returns-then-n-eq0 c = rw (c.nan.ensures, c.nan-then-n-eq0.ensures) (sym (none c.args.values.now c.args.timestamps.now c.args.intercept_time c.if-n-eq0.true))

pub returns-then-are_const_values : goal.returns-then-are_const_values
returns-then-are_const_values c =
    rw c.value_of.ensures (sym (const c.args.values.now c.args.timestamps.now c.args.intercept_time c.if-n-eq0.false (sym c.are_const_values.ensures ∙ c.if-are_const_values.true)))

pub returns : goal.returns
returns c =
    c.fit.ensures
    ∙ rw (c.sum_up.ensures, c.of_count.ensures, to_z-of_z w64 c.args.intercept_time c.ranges.intercept_time) (sym (sloped c.args.values.now c.args.timestamps.now c.args.intercept_time c.if-n-eq0.false (sym c.are_const_values.ensures ∙ c.if-are_const_values.false)))
