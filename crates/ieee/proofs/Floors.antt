-- `floor_of` by units: a value is whole where its units are a multiple of 2 ^ 1074, and else the floor goes by the whole part.
-- And std's floor is `floor_of`. Assumes nothing.
use Rattle.std.proofs.Common.{◌≡◌, ℕ, suc, ◌+◌, ◌-◌, ◌*◌, ◌/◌, ◌%◌, ◌^◌, ◌<◌, Bool, true, false, cond, T, eqb, ℤ, sym, refl, ap, ◌∙◌, add-zero, div-add-mod', mul_right_comm, add_left_cancel, arith, pow_pos, lit<, eqb-true}
use native.Mathlib.Nat.{add-mul, mod-lt, eq_of_mul-eq-mul_right, div-eq_of_lt-le}
use lib.Ieee.{Float, nan, inf, fin, binary64, up, down, fits, of_int, round}
use lib.Ieee.Fits.{down_pos}
use borrow.Author.Tests.{eqb-false}
use Rattle.std.specs.Float.{floor, round_with}
use Rattle.ieee.specs.Value.{negative, floor_of, whole_below}
use Rattle.ieee.proofs.Rank.{units_of}
use Rattle.ieee.proofs.Tests.{by-test}
use Rattle.ieee.proofs.Units.{held, units-fin}
use Rattle.ieee.proofs.Order.{same-eqb}
use Rattle.ieee.proofs.Unrounded.{round-value}
use Rattle.ieee.proofs.Whole.{part_of}

-- ---- whole, by units: equal fractions leave no rest together

no-rest : (a d u l q : ℕ) → 0 < d → a * l ≡ u * d → a / d ≡ q → u / l ≡ q → a % d ≡ 0 → u % l ≡ 0
no-rest a d u l q D p h k r =
    let left : q * d ≡ a = ap (λ (n : ℕ). n * d) (sym h) ∙ sym (add-zero (a / d * d)) ∙ ap (λ (n : ℕ). a / d * d + n) (sym r) ∙ div-add-mod' a d in
    let whole : q * l ≡ u = eq_of_mul-eq-mul_right d D (q * l) u (mul_right_comm q l d ∙ ap (λ (n : ℕ). n * l) left ∙ p) in
    let split : q * l + u % l ≡ u = ap (λ (n : ℕ). n * l + u % l) (sym k) ∙ div-add-mod' u l in
    add_left_cancel (q * l) (split ∙ sym whole ∙ sym (add-zero (q * l)))

same_rest : (s : Bool) (m : ℕ) (e : ℤ) → T (fits binary64 (fin s m e)) → eqb (m * up e % down e) 0 ≡ eqb (units_of (fin s m e) % 2 ^ 1074) 0
same_rest s m e f =
    let u = units_of (fin s m e) in
    let cross = units-fin s m e (held s m e f) in
    let part = part_of s m e f in
    same-eqb (m * up e % down e) 0 (u % 2 ^ 1074) 0
    (no-rest (m * up e) (down e) u (2 ^ 1074) (u / 2 ^ 1074) (down_pos e) cross part refl)
    (no-rest u (2 ^ 1074) (m * up e) (down e) (u / 2 ^ 1074) (pow_pos 1074) (sym cross) refl part)

pub floor-units : (x : Float) → T (fits binary64 x) → floor_of x ≡ cond (eqb (units_of x % 2 ^ 1074) 0) x (whole_below (negative x) (units_of x / 2 ^ 1074))
unfolding floor_of units_of
floor-units nan f = refl
floor-units (inf s) f = refl
floor-units (fin s m e) f = rw (same_rest s m e f, part_of s m e f)

-- ---- std's floor: the quotient rounded down, and rounded up where the value is negative

quotient : (a d : ℕ) → a / d * d + a % d ≡ a
quotient a d = div-add-mod' a d

-- where nothing is left, the value is its quotient
whole_value : (s : Bool) (m : ℕ) (e : ℤ) → T (fits binary64 (fin s m e)) → m * up e % down e ≡ 0 → round binary64 s (m * up e / down e) 1 ≡ fin s m e
whole_value s m e f h =
    let left : m * up e * 1 ≡ m * up e / down e * down e = omega (arith, quotient (m * up e) (down e), h) in
    round-value (fin s m e) s (m * up e / down e) 1 f (lit< tt) (refl, left)

up_whole : (a d : ℕ) → 0 < d → a % d ≡ 0 → (a + d - 1) / d ≡ a / d
up_whole a d D h = div-eq_of_lt-le d (omega (arith, quotient a d, h)) (omega (arith, quotient a d, h, add-mul (a / d) 1 d))

up_rest : (a d : ℕ) → 0 < d → 0 < a % d → (a + d - 1) / d ≡ suc (a / d)
up_rest a d D h =
    let r : a % d < d = mod-lt a D in
    div-eq_of_lt-le d (omega (arith, quotient a d, add-mul (a / d) 1 d)) (omega (arith, quotient a d, add-mul (a / d) 2 d))

some : (n : ℕ) → eqb n 0 ≡ false → 0 < n
some n h = let e : n ≡ 0 → ⊥ = eqb-false n 0 h in omega arith

pub floor-is : (x : Float) → T (fits binary64 x) → floor binary64 x ≡ floor_of x
unfolding floor_of whole_below round_with of_int
floor-is nan f = refl
floor-is (inf s) f = refl
floor-is (fin false m e) f =
    by-test (eqb (m * up e % down e) 0)
    (λ h. rw h (whole_value false m e f (eqb-true _ 0 h)))
    (λ h. rw h refl)
floor-is (fin true m e) f =
    by-test (eqb (m * up e % down e) 0)
    (λ h. rw h (ap (λ (n : ℕ). round binary64 true n 1) (up_whole (m * up e) (down e) (down_pos e) (eqb-true _ 0 h)) ∙ whole_value true m e f (eqb-true _ 0 h)))
    (λ h. rw h (ap (λ (n : ℕ). round binary64 true n 1) (up_rest (m * up e) (down e) (down_pos e) (some _ h))))
