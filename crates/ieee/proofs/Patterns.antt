-- What a bit pattern of binary64 says of the value it stands for: whether it is NaN, whether it is finite, and that the pattern without its
-- highest bit is the value without its sign. Beside it, that each value but NaN equals itself. Assumes nothing.
use Rattle.std.proofs.Common.{◌≡◌, ℕ, zero, suc, ◌+◌, ◌*◌, ◌/◌, ◌%◌, ◌^◌, ◌<◌, Bool, true, false, cond, not, eqb, ltb, leb, ◌⊎◌, sym, refl, ap, ◌∙◌, inl, inr, mod-lt, mod-eq_of_lt, arith, pow_pos, ltb-false, ltb-true, eq-eqb, ne_eqb}
use lib.Dec.{eqb_refl}
use lib.Ieee.{Float, nan, inf, fin, binary64, up, down, eq, odd, is_nan, of_fields, of_bits}
use lib.Ieee.Bits.{is_true}
use lib.Ieee.Scale.{finite}
use borrow.Author.Tests.{lt-leb}
use Rattle.ieee.specs.Value.{abs_of}

pub same-if-number : (x : Float) → eq x x ≡ not (is_nan x)
unfolding eq is_nan
same-if-number nan = refl
same-if-number (inf true) = refl
same-if-number (inf false) = refl
same-if-number (fin true m e) = rw (is_true (eqb (m * up e * down e) (m * up e * down e)) (eqb_refl (m * up e * down e)))
same-if-number (fin false m e) = rw (is_true (eqb (m * up e * down e) (m * up e * down e)) (eqb_refl (m * up e * down e)))

pub nan_is : (x : Float) → is_nan x ≡ true → x ≡ nan
unfolding is_nan
nan_is nan h = refl
nan_is (inf s) h = cc
nan_is (fin s m e) h = cc

pub not-nan : (x : Float) → (x ≡ nan → ⊥) → is_nan x ≡ false
unfolding is_nan
not-nan nan h = absurd (h refl)
not-nan (inf s) h = refl
not-nan (fin s m e) h = refl

pub nan-or-number : (x : Float) → (x ≡ nan) ⊎ (is_nan x ≡ false)
unfolding is_nan
nan-or-number nan = inl refl
nan-or-number (inf s) = inr refl
nan-or-number (fin s m e) = inr refl

-- a pattern's value, by its fields
opened : (b : ℕ) → of_bits binary64 b ≡ of_fields binary64 (leb (2 ^ 63) b) (b % 2 ^ 63 / 2 ^ 52) (b % 2 ^ 52)
unfolding of_bits
opened b = refl

-- ---- finite: the exponent's field is not all ones

pub odd-finite : (d : ℕ) (s : Bool) (q k l : ℕ) → finite (odd d s q k l) ≡ true
unfolding odd
odd-finite d s zero k l = refl
odd-finite d s (suc q) k l = refl

by_tests : (a b s : Bool) (v : Float) → finite v ≡ true → finite (cond a (cond b (inf s) nan) v) ≡ not a
by_tests true true s v h = refl
by_tests true false s v h = refl
by_tests false b s v h = h

fields-finite : (s : Bool) (x t : ℕ) → finite (of_fields binary64 s x t) ≡ not (eqb x 2047)
unfolding of_fields
fields-finite s zero t = odd-finite 53 s t 0 1074
fields-finite s (suc x) t = by_tests (eqb (suc x) 2047) (eqb t 0) s _ (odd-finite 53 s (2 ^ 52 + t) x 1074)

below-ones : (r : ℕ) → r < 2 ^ 63 → ltb r 0x7FF0_0000_0000_0000 ≡ not (eqb (r / 2 ^ 52) 2047)
below-ones r h = split (ltb r 0x7FF0_0000_0000_0000) refl
  where
    split : (t : Bool) → ltb r 0x7FF0_0000_0000_0000 ≡ t → t ≡ not (eqb (r / 2 ^ 52) 2047)
    split true e = rw (ne_eqb (r / 2 ^ 52) 2047 (λ k. omega (arith, ltb-true r 0x7FF0_0000_0000_0000 e, k)))
    split false e = rw (eq-eqb (r / 2 ^ 52) 2047 (omega (arith, ltb-false r 0x7FF0_0000_0000_0000 e)))

pub finite-below : (b : ℕ) → ltb (b % 2 ^ 63) 0x7FF0_0000_0000_0000 ≡ finite (of_bits binary64 b)
finite-below b = below-ones (b % 2 ^ 63) (mod-lt b (pow_pos 63)) ∙ sym (ap finite (opened b) ∙ fields-finite _ (b % 2 ^ 63 / 2 ^ 52) (b % 2 ^ 52))

-- ---- without the highest bit

odd-abs : (d : ℕ) (s : Bool) (q k l : ℕ) → abs_of (odd d s q k l) ≡ odd d false q k l
unfolding odd abs_of
odd-abs d s zero k l = refl
odd-abs d s (suc q) k l = refl

abs-by-tests : (a b s : Bool) (v w : Float) → abs_of v ≡ w → abs_of (cond a (cond b (inf s) nan) v) ≡ cond a (cond b (inf false) nan) w
unfolding abs_of
abs-by-tests true true s v w h = refl
abs-by-tests true false s v w h = refl
abs-by-tests false b s v w h = h

fields-abs : (s : Bool) (x t : ℕ) → abs_of (of_fields binary64 s x t) ≡ of_fields binary64 false x t
unfolding of_fields
fields-abs s zero t = odd-abs 53 s t 0 1074
fields-abs s (suc x) t = abs-by-tests (eqb (suc x) 2047) (eqb t 0) s _ _ (odd-abs 53 s (2 ^ 52 + t) x 1074)

same_digits : (b : ℕ) → b % 2 ^ 63 % 2 ^ 52 ≡ b % 2 ^ 52
same_digits b = omega arith

pub abs_is : (b : ℕ) → of_bits binary64 (b % 2 ^ 63) ≡ abs_of (of_bits binary64 b)
abs_is b =
    let small : b % 2 ^ 63 < 2 ^ 63 = mod-lt b (pow_pos 63) in
    opened (b % 2 ^ 63)
    ∙ rw (lt-leb (2 ^ 63) (b % 2 ^ 63) small, mod-eq_of_lt small, same_digits b) (sym (ap abs_of (opened b) ∙ fields-abs _ (b % 2 ^ 63 / 2 ^ 52) (b % 2 ^ 52)))

pub abs-nan : (x : Float) → is_nan (abs_of x) ≡ is_nan x
unfolding is_nan abs_of
abs-nan nan = refl
abs-nan (inf s) = refl
abs-nan (fin s m e) = refl
