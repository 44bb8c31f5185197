-- A value's units say its size: as many times 2 ^ -1074. They are fewer than an infinity's, and with the sign they determine the value.
-- Assumes nothing.
use Rattle.std.proofs.Common.{◌≡◌, ℕ, zero, suc, ◌+◌, ◌-◌, ◌*◌, ◌/◌, ◌^◌, ◌<◌, ◌≤◌, Bool, true, false, cond, T, ltb, leb, ℤ, pos, negsuc, sym, refl, ap, ◌∙◌, subst, zero-le, le_trans, le_refl, lt_of_lt_of_le, le_of_suc-le-suc, le_of_lt, lt_irrefl, mul_comm, lt_of_mul-lt-mul_right, mul-lt-mul_of_pos_right, mul-pos, lt_of_not-le, zero-mul, mul_right_comm, le-mul_of_pos_right, lit<, lit≤, eqb→eq, ltb→lt, leb→le, pow_pos, pow-add}
use Prim.Native.Nat.{◌∣◌}
use native.Mathlib.Nat.{eq_of_mul-eq-mul_right, one-dvd, div-mul_cancel, dvd-mul_left, dvd-mul_left_of_dvd}
use lib.Pow.{pow-lt}
use lib.Ieee.{Float, nan, inf, fin, binary64, up, down, size, fits, is_nan, of_bits, to_bits}
use lib.Ieee.Bits.{of_bits-to_bits}
use lib.Ieee.Exact.{HasValue}
use lib.Ieee.Digits.{back}
use lib.Ieee.Fits.{and_l, and_r, up_pos, down_pos}
use lib.Ieee.Scale.{finite}
use Rattle.ieee.specs.Value.{negative}
use Rattle.ieee.proofs.Rank.{most, units_of}

-- ---- what it takes to fit, for both signs and for zero too

pub record Held (m : ℕ) (e : ℤ) : Type 0 where
  pub short : m < 2 ^ 53
  pub fine : down e ≤ 2 ^ 1074
  pub small : m * up e < 2 ^ 1024 * down e

pub held : (s : Bool) (m : ℕ) (e : ℤ) → T (fits binary64 (fin s m e)) → Held m e
unfolding fits
held s zero e t =
    let one : up e * down e ≡ 1 = eqb→eq (up e * down e) 1 t in
    let d : down e ≤ up e * down e = subst (λ (n : ℕ). down e ≤ n) (mul_comm (down e) (up e)) (le-mul_of_pos_right (down e) (up_pos e)) in
    record { short = lit< tt; fine = le_trans (subst (λ (n : ℕ). down e ≤ n) one d) (lit≤ tt); small = rw zero-mul (mul-pos (pow_pos 1024) (down_pos e)) }
held s (suc m) e t =
    let few : T (ltb (suc m) (2 ^ 53)) = search (and_l, and_r) in
    let low : T (leb (down e) (2 ^ 1074)) = search (and_l, and_r) in
    let high : T (ltb (suc m * up e) (2 ^ 1024 * down e)) = search (and_l, and_r) in
    record { short = ltb→lt _ _ few; fine = leb→le _ _ low; small = ltb→lt _ _ high }

-- ---- the units are the size

exponent-le : (a l : ℕ) → 2 ^ a ≤ 2 ^ l → a ≤ l
exponent-le a l h = le_of_suc-le-suc (lt_of_not-le (λ (g : suc l ≤ a). lt_irrefl (2 ^ l) (lt_of_lt_of_le (pow-lt g) h)))

down-divides : (e : ℤ) (l : ℕ) → down e ≤ 2 ^ l → down e ∣ 2 ^ l
down-divides (pos a) l h = one-dvd (2 ^ l)
down-divides (negsuc a) l h =
    let k : l - suc a + suc a ≡ l = back l (suc a) (exponent-le (suc a) l h) in
    subst (λ (n : ℕ). 2 ^ suc a ∣ 2 ^ n) k (rw (pow-add 2 (l - suc a) (suc a)) (dvd-mul_left (2 ^ suc a) (2 ^ (l - suc a))))

pub units-fin : (s : Bool) (m : ℕ) (e : ℤ) → Held m e → m * up e * 2 ^ 1074 ≡ units_of (fin s m e) * down e
unfolding units_of
units-fin s m e h = sym (div-mul_cancel (down e) (dvd-mul_left_of_dvd (down e) (down-divides e 1074 h.fine) (m * up e)))

-- whatever fraction a / c the value equals
pub units_of_lem : (x : Float) (s : Bool) (a c : ℕ) → T (fits binary64 x) → HasValue x s a c → units_of x * c ≡ a * 2 ^ 1074
units_of_lem nan s a c f v = elim v [ ]
units_of_lem (inf _) s a c f v = elim v [ ]
units_of_lem (fin t m e) s a c f v =
    eq_of_mul-eq-mul_right (down e) (down_pos e) (units_of (fin t m e) * c) (a * 2 ^ 1074)
    (mul_right_comm (units_of (fin t m e)) c (down e)
    ∙ ap (λ (n : ℕ). n * c) (sym (units-fin t m e (held t m e f)))
    ∙ mul_right_comm (m * up e) (2 ^ 1074) c
    ∙ ap (λ (n : ℕ). n * 2 ^ 1074) v.1
    ∙ mul_right_comm a (down e) (2 ^ 1074))

-- ---- an infinity has more

units-fin-lt : (s : Bool) (m : ℕ) (e : ℤ) → Held m e → units_of (fin s m e) < most
units-fin-lt s m e h =
    lt_of_mul-lt-mul_right (down e)
    (subst (λ (n : ℕ). n < most * down e) (units-fin s m e h)
    (subst (λ (n : ℕ). m * up e * 2 ^ 1074 < n) (mul_right_comm (2 ^ 1024) (down e) (2 ^ 1074)) (mul-lt-mul_of_pos_right h.small (pow_pos 1074))))

pub units_lt : (x : Float) → T (fits binary64 x) → T (finite x) → units_of x < most
units_lt nan f t = elim t [ ]
units_lt (inf _) f t = elim t [ ]
units_lt (fin s m e) f t = units-fin-lt s m e (held s m e f)

pub units-le : (x : Float) → T (fits binary64 x) → units_of x ≤ most
unfolding units_of
units-le nan f = zero-le
units-le (inf s) f = le_refl most
units-le (fin s m e) f = le_of_lt (units-fin-lt s m e (held s m e f))

-- ---- the value from its sign and its units

-- the pattern of a value, by its sign and its units; an infinity's comes out right too
abbrev pub pattern_at : Bool → ℕ → ℕ
pattern_at s u = cond s (2 ^ 63) 0 + (size u - 53) * 2 ^ 52 + u / 2 ^ (size u - 53)

pub pattern-of : (x : Float) → is_nan x ≡ false → to_bits binary64 x ≡ pattern_at (negative x) (units_of x)
unfolding to_bits units_of is_nan
pattern-of nan p = cc
pattern-of (inf true) p = refl
pattern-of (inf false) p = refl
pattern-of (fin s m e) p = refl

pub same_units : (x y : Float) → T (fits binary64 x) → T (fits binary64 y) → is_nan x ≡ false → is_nan y ≡ false → negative x ≡ negative y → units_of x ≡ units_of y → x ≡ y
same_units x y f g p q n u =
    let b : to_bits binary64 x ≡ to_bits binary64 y = pattern-of x p ∙ rw (n, u) (sym (pattern-of y q)) in
    sym (of_bits-to_bits binary64 x f) ∙ ap (of_bits binary64) b ∙ of_bits-to_bits binary64 y g
