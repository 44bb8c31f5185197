-- std's square root is `sqrt_of`. It rounds the root of n * (P * P), P times as large, where `root_of` rounds that of n: the two lie between the same
-- points half way (`Enclosed`), so the same value is nearest. Assumes nothing.
use mathlib.Core.Path.{◌≡◌, refl, sym, ap, ◌∙◌}
use mathlib.Core.Bool.{true, false, cond}
use Prim.Native.Nat.{ℕ, zero, suc, ◌+◌, ◌-◌, ◌*◌, ◌/◌, ◌^◌, ◌≤◌, ◌<◌}
use native.Mathlib.Nat.{le_of_suc-le-suc, lt_of_not-le, lt_of_le_of_lt, mul_assoc, mul_comm, mul_left_comm, mul_right_comm, mul-mul-mul_comm, mul-pos, mul-le-mul_right, mul-lt-mul_of_pos_right, mul-div_cancel, div-eq_of_lt-le, zero-mul, add-mul, suc-mul, pow-succ'}
use native.Mathlib.Omega.{arith}
use borrow.Author.Tests.{eq-eqb, ne_eqb, ltb-true, ltb-false}
use lib.IntN.{pos}
use lib.Dec.{T, ltb, lit<}
use lib.Pow.{pow_pos}
use lib.Ieee.{Float, nan, inf, fin, binary64, up, down, size, units, round, sqrt, fits, root_below, root_twice}
use lib.Ieee.Back.{whole_unique}
use lib.Ieee.Fits.{down_pos, round_is}
use lib.Ieee.Nearest.{closest, closest_same, div_same}
use lib.Ieee.Root.{whole_part}
use Rattle.ieee.proofs.Tests.{by-test}
use Rattle.root.specs.Root.{isqrt, halves, root_of, sqrt_of}
use Rattle.root.proofs.Whole.{isqrt-is, twice-squared}
use Rattle.root.proofs.Closest.{closest-is}
use Rattle.root.proofs.Halves.{above, from, below, root-lt}
use Rattle.root.proofs.Value.{root_is, units_of_lem, sqrt-of-units}
use Rattle.root.proofs.Enclosed.{Enclosed, Rounded, rounded, square_le, scaled}

-- ---- twice the root of n

twice-is : (n : ℕ) → root_twice n ≡ halves n
unfolding root_twice halves
twice-is n = go (root_below (size n) n) (whole_part n).0 (whole_part n).1
  where
    go : (r : ℕ) → r * r ≤ n → n < (r + 1) * (r + 1) → 2 * r + cond (lib.Dec.eqb (r * r) n) 0 1 ≡ 2 * isqrt n + cond (ltb (isqrt n * isqrt n) n) 1 0
    go r low high =
        let q = isqrt n in
        let i = isqrt-is n in
        let le : r ≤ q = le_of_suc-le-suc (root-lt r (suc q) (lt_of_le_of_lt low i.1)) in
        let ge : q < r + 1 = root-lt q (r + 1) (lt_of_le_of_lt i.0 high) in
        let e : r ≡ q = omega (arith, le, ge) in
        rw e
        (by-test (ltb (q * q) n)
        (λ h. let l : q * q < n = ltb-true (q * q) n h in rw (h, ne_eqb (q * q) n (λ (z : q * q ≡ n). omega arith)) refl)
        (λ h. let g : n ≤ q * q = ltb-false (q * q) n h in rw (h, eq-eqb (q * q) n (omega (arith, g, i.0))) refl))

-- ---- the root of n * (P * P)

module _ (n P : ℕ) (p : 0 < P) where
  abbrev M : ℕ
  M = n * (P * P)

  -- its whole part is that of P roots of n
  whole : halves M / (2 * P) ≡ halves n / 2
  whole =
      let q = halves n / 2 in
      let low : q * q ≤ n = square_le n q (omega arith) in
      let high : n < suc q * suc q = lt_of_not-le (λ (g : suc q * suc q ≤ n). let t : 2 * suc q ≤ halves n = from n (suc q) g in omega (arith, t)) in
      let lo : 2 * (q * P) ≤ halves M = from M (q * P) (omega (arith, mul-mul-mul_comm q P q P, mul-le-mul_right (P * P) low)) in
      let hi : halves M < 2 * (suc q * P) = below M (suc q * P) (omega (arith, mul-mul-mul_comm (suc q) P (suc q) P, mul-lt-mul_of_pos_right high (mul-pos p p))) in
      div-eq_of_lt-le (2 * P) (omega (arith, lo, mul_left_comm q 2 P)) (omega (arith, hi, mul_left_comm (q + 1) 2 P))

  -- the same number is nearest
  module _ (r j : ℕ) (in_between : Enclosed n r (suc j)) where
    abbrev H : ℕ
    H = 2 ^ j * P

    doubled : 2 ^ suc j * P ≡ 2 * H
    doubled = ap (λ (x : ℕ). x * P) (pow-succ' 2 j) ∙ mul_assoc 2 (2 ^ j) P

    -- s halves of 2 ^ (j + 1), P times as large
    square : (s : ℕ) → s * 2 ^ suc j * (s * 2 ^ suc j) * (P * P) ≡ 4 * (s * H * (s * H))
    square s =
        let e : s * 2 ^ suc j * P ≡ 2 * (s * H) = mul_assoc s (2 ^ suc j) P ∙ ap (λ (x : ℕ). s * x) doubled ∙ mul_left_comm s 2 H in
        sym (mul-mul-mul_comm (s * 2 ^ suc j) P (s * 2 ^ suc j) P) ∙ ap (λ (x : ℕ). x * x) e ∙ twice-squared (s * H)

    four : 4 * n * (P * P) ≡ 4 * M
    four = mul_assoc 4 n (P * P)

    under : (2 * r - 1) * H * ((2 * r - 1) * H) < M
    under = omega (arith, square (2 * r - 1), four, mul-lt-mul_of_pos_right in_between.under (mul-pos p p))

    over : M < (2 * r + 1) * H * ((2 * r + 1) * H)
    over = omega (arith, square (2 * r + 1), four, mul-lt-mul_of_pos_right in_between.over (mul-pos p p))

    same_closest : closest (halves M) (2 * P * 2 ^ suc j) ≡ r
    same_closest =
        let b : 2 * P * 2 ^ suc j ≡ 4 * H = mul_assoc 2 P (2 ^ suc j) ∙ ap (λ (x : ℕ). 2 * x) (mul_comm P (2 ^ suc j) ∙ doubled) ∙ sym (mul_assoc 2 2 H) in
        let lo : 2 * ((2 * r - 1) * H) < halves M = above M ((2 * r - 1) * H) under in
        let hi : halves M < 2 * ((2 * r + 1) * H) = below M ((2 * r + 1) * H) over in
        let some : 0 < H = mul-pos (pow_pos j) p in
        let odd : (2 * r - 1) * H + H ≡ 2 * (r * H) = sym (suc-mul (2 * r - 1) H) ∙ ap (λ (x : ℕ). x * H) (one_more r in_between.least) ∙ mul_assoc 2 r H in
        let even : (2 * r + 1) * H ≡ 2 * (r * H) + H = add-mul (2 * r) 1 H ∙ (omega (arith, mul_assoc 2 r H)) in
        let full : r * (4 * H) ≡ 4 * (r * H) = mul_left_comm r 4 H in
        rw b (closest-is (halves M) (4 * H) r (omega (arith, some)) (omega (arith, lo, odd, full)) (omega (arith, hi, even, full)))
      where
        one_more : (r : ℕ) → 2 ^ 52 ≤ r → suc (2 * r - 1) ≡ 2 * r
        one_more r h = omega (arith, h)

  -- and so is the value
  larger : (k : ℕ) → size (halves M / (2 * P)) - 53 ≡ k → round binary64 false (halves M) (2 ^ 1075 * P) ≡ units binary64 false (closest (halves M) (2 * P * 2 ^ k)) k
  larger k e =
      let a = halves M in
      let D = 2 ^ 1075 * P in
      let d : 0 < D = mul-pos (pow_pos 1075) p in
      let cross : (c : ℕ) → a * 2 ^ 1074 * (2 * P * c) ≡ a * (D * c) = λ c. mul_assoc a (2 ^ 1074) (2 * P * c) ∙ ap (λ (x : ℕ). a * x) (sym (mul_assoc (2 ^ 1074) (2 * P) c) ∙ ap (λ (x : ℕ). x * c) (sym (mul_assoc (2 ^ 1074) 2 P))) in
      let whole : a * 2 ^ 1074 / D ≡ a / (2 * P) = div_same (a * 2 ^ 1074) D a (2 * P) d (mul-pos (lit< tt) p) (mul_assoc a (2 ^ 1074) (2 * P) ∙ ap (λ (x : ℕ). a * x) (sym (mul_assoc (2 ^ 1074) 2 P))) in
      round_is binary64 false a D
      ∙ ap (λ (x : ℕ). units binary64 false (closest (a * 2 ^ 1074) (D * 2 ^ x)) x) (ap (λ (x : ℕ). size x - 53) whole ∙ e)
      ∙ ap (λ (x : ℕ). units binary64 false x k) (closest_same (a * 2 ^ 1074) (D * 2 ^ k) a (2 * P * 2 ^ k) (mul-pos d (pow_pos k)) (mul-pos (mul-pos (lit< tt) p) (pow_pos k)) (cross (2 ^ k)))

  same_root : Rounded n → round binary64 false (halves M) (2 ^ 1075 * P) ≡ root_of n
  same_root t =
      larger (suc t.j) (ap (λ (x : ℕ). size x - 53) whole ∙ t.dropped)
      ∙ ap (λ (x : ℕ). units binary64 false x (suc t.j)) (same_closest (closest (halves n) (2 * 2 ^ suc t.j)) t.j t.inside)
      ∙ sym (root_is n (suc t.j) t.dropped)

-- ---- at a value

units-larger : (a d A Z W : ℕ) → 0 < d → a * Z ≡ A * d → a * (Z * W) / d ≡ A * W
units-larger a d A Z W D e = ap (λ (x : ℕ). x / d) (sym (mul_assoc a Z W) ∙ ap (λ (x : ℕ). x * W) e ∙ mul_right_comm A d W) ∙ mul-div_cancel (A * W) D

pub sqrt-is : (x : Float) → T (fits binary64 x) → sqrt binary64 x ≡ sqrt_of x
unfolding sqrt sqrt_of
sqrt-is nan f = refl
sqrt-is (inf true) f = refl
sqrt-is (inf false) f = refl
sqrt-is (fin s zero e) f = unfold fits in whole_unique binary64 (fin s 0 (pos 0)) (fin s 0 e) s 0 tt f (refl, refl) (refl, omega (arith, zero-mul (up e), zero-mul (down e)))
sqrt-is (fin true (suc m) e) f = refl
sqrt-is (fin false (suc m) e) f =
    let held = units_of_lem m e f in
    let in-units = scaled (suc m) e held.lowest in
    let i = in-units.0 in
    let A = suc m * 2 ^ i in
    let n = A * 2 ^ 1074 in
    let P = 2 ^ 1197 in
    let l : A < 2 ^ 2098 = rw (ap (λ (z : ℕ). z / down e) in-units.1 ∙ mul-div_cancel A (down_pos e)) at held.highest in
    let is : suc m * up e * (2 ^ 1074 * 2 ^ 3468) / down e ≡ A * 2 ^ 3468 = units-larger (suc m * up e) (down e) A (2 ^ 1074) (2 ^ 3468) (down_pos e) in-units.1 in
    let large : A * 2 ^ 3468 ≡ n * (P * P) = sym (mul_assoc A (2 ^ 1074) (P * P)) in
    ap (λ (z : ℕ). round binary64 false (root_twice z) (2 ^ 2272)) (is ∙ large)
    ∙ ap (λ (z : ℕ). round binary64 false z (2 ^ 2272)) (twice-is (n * (P * P)))
    ∙ same_root n P (pow_pos 1197) (rounded (suc m) i (omega arith) held.digits l)
    ∙ sym (sqrt-of-units (fin false (suc m) e) A (mul-pos (omega arith) (pow_pos i)) (refl, in-units.1))
