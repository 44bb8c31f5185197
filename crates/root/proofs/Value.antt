-- The definition by values: the root of n units is the nearest multiple of 2 ^ k, where k digits are dropped, and that of a value is that of its units times
-- 2 ^ 1074. Assumes nothing.
use mathlib.Core.Path.{◌≡◌, sym, ap, ◌∙◌}
use mathlib.Core.Bool.{true, false, ◌&&◌, true≢false}
use Prim.Native.Nat.{ℕ, zero, suc, ◌-◌, ◌*◌, ◌/◌, ◌%◌, ◌^◌, ◌≤◌, ◌<◌}
use native.Mathlib.Nat.{lt_of_lt_of_le, zero-mul, mul_assoc, mul-pos, mul-lt-mul_of_pos_right, mul_right_comm, mul-div_cancel, div-lt_iff_lt-mul, le_of_eq}
use native.Mathlib.Omega.{arith}
use lib.IntN.{ℤ}
use lib.Dec.{T, eqb, ltb, leb, ltb→lt, leb→le, lit<}
use lib.Pow.{pow_pos}
use lib.Ieee.{Float, nan, inf, fin, binary64, up, down, size, units, fits}
use lib.Ieee.Fits.{and_l, and_r, down_pos, round_is}
use lib.Ieee.Exact.{HasValue}
use lib.Ieee.Nearest.{closest, closest_same, div_same}
use Rattle.root.specs.Root.{halves, root_of, sqrt_of}

-- k digits of the whole part are dropped, and what is kept is the nearest multiple of 2 ^ k
pub root_is : (n k : ℕ) → size (halves n / 2) - 53 ≡ k → root_of n ≡ units binary64 false (closest (halves n) (2 * 2 ^ k)) k
unfolding root_of
root_is n k e =
    let a = halves n in
    let D : 0 < 2 ^ 1075 = pow_pos 1075 in
    let whole : a * 2 ^ 1074 / 2 ^ 1075 ≡ a / 2 = div_same (a * 2 ^ 1074) (2 ^ 1075) a 2 D (lit< tt) (mul_assoc a (2 ^ 1074) 2) in
    let scaled : a * 2 ^ 1074 * (2 * 2 ^ k) ≡ a * (2 ^ 1075 * 2 ^ k) = mul_assoc a (2 ^ 1074) (2 * 2 ^ k) ∙ ap (λ (x : ℕ). a * x) (sym (mul_assoc (2 ^ 1074) 2 (2 ^ k))) in
    round_is binary64 false a (2 ^ 1075)
    ∙ ap (λ (x : ℕ). units binary64 false (closest (a * 2 ^ 1074) (2 ^ 1075 * 2 ^ x)) x) (ap (λ (x : ℕ). size x - 53) whole ∙ e)
    ∙ ap (λ (x : ℕ). units binary64 false x k) (closest_same (a * 2 ^ 1074) (2 ^ 1075 * 2 ^ k) a (2 * 2 ^ k) (mul-pos D (pow_pos k)) (mul-pos (lit< tt) (pow_pos k)) scaled)

-- ---- the definition at a positive value, which is a units

-- a value that fits has up to 53 digits and none below the unit, and is less than 2 ^ 2098 units
pub record Fitting (m : ℕ) (e : ℤ) : Type 0 where
  pub digits : m < 2 ^ 53
  pub lowest : down e ≤ 2 ^ 1074
  pub highest : m * up e * 2 ^ 1074 / down e < 2 ^ 2098

pub units_of_lem : (m : ℕ) (e : ℤ) → T (fits binary64 (fin false (suc m) e)) → Fitting (suc m) e
unfolding fits
units_of_lem m e f =
    let a = suc m * up e in
    let O = eqb (suc m % 2) 1 in
    let A = O && ltb (suc m) (2 ^ 53) in
    let C = leb (down e) (2 ^ 1074) in
    let D = ltb a (2 ^ 1024 * down e) in
    let top = mul-lt-mul_of_pos_right (ltb→lt a (2 ^ 1024 * down e) (and_r (A && C) D f)) (pow_pos 1074) in
    record {
      digits = ltb→lt (suc m) (2 ^ 53) (and_r O (ltb (suc m) (2 ^ 53)) (and_l A C (and_l (A && C) D f)));
      lowest = leb→le (down e) (2 ^ 1074) (and_r A C (and_l (A && C) D f));
      highest = (div-lt_iff_lt-mul (down_pos e)).1 (lt_of_lt_of_le top (le_of_eq (mul_right_comm (2 ^ 1024) (down e) (2 ^ 1074))));
    }

pub sqrt-of-units : (x : Float) (a : ℕ) → 0 < a → HasValue x false a (2 ^ 1074) → sqrt_of x ≡ root_of (a * 2 ^ 1074)
unfolding sqrt_of
sqrt-of-units nan a p h = absurd h
sqrt-of-units (inf s) a p h = absurd h
sqrt-of-units (fin s zero e) a p h = absurd (none (up e) (2 ^ 1074) (a * down e) (mul-pos p (down_pos e)) h.1)
  where
    none : (u l x : ℕ) → 0 < x → 0 * u * l ≡ x → ⊥
    none u l x p e = omega (arith, zero-mul u, zero-mul l)
sqrt-of-units (fin true (suc m) e) a p h = absurd (true≢false h.0)
sqrt-of-units (fin false (suc m) e) a p h = ap (λ (x : ℕ). root_of (x * 2 ^ 1074)) (ap (λ (x : ℕ). x / down e) h.1 ∙ mul-div_cancel a (down_pos e))
