-- `ieee::total_lt` meets its contract. Each branch leaves one clause of `total_lt` to decide; between equal values the patterns' order is that of the signs.
-- Assumes nothing.
use Rattle.std.proofs.Common.{◌≡◌, Bool, true, false, not, T, ltb, sym, ap, ◌∙◌, subst}
use mathlib.Core.Bool.{and-true, and-false, or-false}
use lib.Ieee.{Float, binary64, lt, eq, fits, is_nan, to_bits}
use Rattle.ieee.specs.Value.{total_lt}
use Rattle.ieee.proofs.Order.{eq-numbers, equal-patterns}
use Rattle.ieee.proofs.total_lt.Goals as goal

module _ (x y : Float) where
  less : lt x y ≡ true → true ≡ total_lt x y
  unfolding total_lt
  less l = rw l

  equal : T (fits binary64 x) → T (fits binary64 y) → lt x y ≡ false → eq x y ≡ true → ltb (to_bits binary64 y) (to_bits binary64 x) ≡ total_lt x y
  unfolding total_lt
  equal f g l e = rw (l, e, (eq-numbers x y e).1) (simp (and-false, or-false) (equal-patterns x y f g e))

  number : lt x y ≡ false → eq x y ≡ false → is_nan y ≡ false → false ≡ total_lt x y
  unfolding total_lt
  number l e n = rw (l, e, n) (simp and-false)

  last : lt x y ≡ false → eq x y ≡ false → is_nan y ≡ true → not (is_nan x) ≡ total_lt x y
  unfolding total_lt
  last l e n = rw (l, e, n) (simp and-true)

pub returns-then-x-y : goal.returns-then-x-y
returns-then-x-y c = less _ _ c.if-x-y.true

pub float_to_bits-result : goal.float_to_bits-result
float_to_bits-result c = subst (λ (b : Bool). T (not b)) (sym (eq-numbers _ _ c.if-x-y-2.true).1) tt

pub returns-then-x-y-2 : goal.returns-then-x-y-2
returns-then-x-y-2 c =
    let good = c.well_formed in
    equal _ _ (subst T (sym good.0.1) tt) (subst T (sym good.1.0.1) tt) c.if-x-y.false c.if-x-y-2.true

pub returns-then-is_nan : goal.returns-then-is_nan
returns-then-is_nan c = ap not c.is_nan-then-is_nan.ensures.value ∙ last _ _ c.if-x-y.false c.if-x-y-2.false (sym c.is_nan.ensures.value ∙ c.if-is_nan.true)

pub returns-else-is_nan : goal.returns-else-is_nan
returns-else-is_nan c = c.if-is_nan.false ∙ number _ _ c.if-x-y.false c.if-x-y-2.false (sym c.is_nan.ensures.value ∙ c.if-is_nan.false)
