-- The definition rounds correctly. The root of a positive finite x lies, for some k, from 2 ^ 52 * 2 ^ k to 2 ^ 53 * 2 ^ k units, where the binary64 values are the multiples of 2 ^ k.
-- `sqrt_of x` is one of them, r * 2 ^ k units, and the root lies strictly between the points half way to its neighbours: x lies between their squares.
-- (2 * r - 1) * 2 ^ k and (2 * r + 1) * 2 ^ k are twice those points. No root lies on such a point: its square is an odd number of quarters of 4 ^ k units,
-- and x is a whole number of 4 ^ k units. So only one value fits. Assumes nothing.
use mathlib.Core.Path.{◌≡◌, refl, sym, ap, ◌∙◌, subst}
use mathlib.Core.Bool.{true, false}
use Prim.Native.Nat.{ℕ, zero, suc, ◌+◌, ◌-◌, ◌*◌, ◌/◌, ◌^◌, ◌≤◌, ◌<◌}
use native.Mathlib.Nat.{le_trans, le_of_eq, le_antisymm, lt_of_lt_of_le, lt_of_le_of_lt, lt_of_not-le, not-le_of_lt, lt_of_mul-lt-mul_right, le_of_suc-le-suc, suc-mul, add-mul, mul-add, mul-one, mul_assoc, mul_left_comm, mul-mul-mul_comm, mul-pos, mul-le-mul_right, mul-lt-mul_of_pos_right, div-lt_iff_lt-mul, mul-div_cancel, pow-succ'}
use native.Mathlib.Omega.{arith}
use lib.IntN.{ℤ, pos, negsuc}
use lib.Dec.{T, lit<, lit≤}
use lib.Pow.{pow_pos, pow_mono, pow-lt, pow-add}
use lib.Ieee.{Float, nan, inf, fin, binary64, up, down, size, units, fits}
use lib.Ieee.Digits.{size-lt, size-le, size_reaches}
use lib.Ieee.Exact.{HasValue, units_val}
use lib.Ieee.Fits.{down_pos}
use lib.Ieee.Nearest.{closest}
use lib.Ieee.Positive.{positive}
use Rattle.root.specs.Root.{halves, sqrt_of}
use Rattle.root.proofs.Whole.{twice-squared}
use Rattle.root.proofs.Closest.{Near, closest-near}
use Rattle.root.proofs.Halves.{above, from, below, root-lt}
use Rattle.root.proofs.Value.{root_is, units_of_lem, sqrt-of-units}

-- of the multiples of 2 ^ k, where the root of n has 53 digits above 2 ^ k, r * 2 ^ k is the nearest to it
pub record Enclosed (n r k : ℕ) : Type 0 where
  pub low : 2 ^ 52 * 2 ^ k * (2 ^ 52 * 2 ^ k) ≤ n
  pub high : n < 2 ^ 53 * 2 ^ k * (2 ^ 53 * 2 ^ k)
  pub least : 2 ^ 52 ≤ r
  pub most : r ≤ 2 ^ 53
  pub under : (2 * r - 1) * 2 ^ k * ((2 * r - 1) * 2 ^ k) < 4 * n
  pub over : 4 * n < (2 * r + 1) * 2 ^ k * ((2 * r + 1) * 2 ^ k)

-- ---- only one value fits

module _ (n r k s j : ℕ) (a : Enclosed n r k) (b : Enclosed n s j) where
  no-larger : k ≤ j
  no-larger =
      le_of_suc-le-suc
      (lt_of_not-le (λ (g : suc j ≤ k).
      not-le_of_lt (root-lt (2 ^ 52 * 2 ^ k) (2 ^ 53 * 2 ^ j) (lt_of_le_of_lt a.low b.high))
      (omega (arith, pow_mono g, pow-succ' 2 j))))

  no-further : k ≡ j → r ≤ s
  no-further e =
      let P = 2 ^ j in
      let same = rw e at a.under in
      let l : 2 * r - 1 < 2 * s + 1 = lt_of_mul-lt-mul_right P (root-lt ((2 * r - 1) * P) ((2 * s + 1) * P) (omega (arith, same, b.over))) in
      omega (arith, l)

pub only_one : (n r k s j : ℕ) → Enclosed n r k → Enclosed n s j → (r ≡ s) × (k ≡ j)
only_one n r k s j a b =
    let e : k ≡ j = le_antisymm (no-larger n r k s j a b) (no-larger n s j r k b a) in
    (le_antisymm (no-further n r k s j a b e) (no-further n s j r k b a (sym e)), e)

-- ---- the square of a point half way is no whole number of 4 ^ k

odd-square : (q : ℕ) → (2 * q + 1) * (2 * q + 1) ≡ 4 * (q * q) + 4 * q + 1
odd-square q = omega (arith, add-mul (2 * q) 1 (2 * q + 1), mul-add (2 * q) (2 * q) 1, twice-squared q)

module _ (q w Q : ℕ) (p : 0 < Q) where
  odd-below : (2 * q + 1) * (2 * q + 1) * Q ≤ 4 * w * Q → (2 * q + 1) * (2 * q + 1) * Q < 4 * w * Q
  odd-below h =
      mul-lt-mul_of_pos_right (lt_of_not-le (λ (g : 4 * w ≤ (2 * q + 1) * (2 * q + 1)). not-le_of_lt (mul-lt-mul_of_pos_right (omega (arith, odd-square q)) p) h)) p

  odd-above : 4 * w * Q ≤ (2 * q + 1) * (2 * q + 1) * Q → 4 * w * Q < (2 * q + 1) * (2 * q + 1) * Q
  odd-above h =
      mul-lt-mul_of_pos_right (lt_of_not-le (λ (g : (2 * q + 1) * (2 * q + 1) ≤ 4 * w). not-le_of_lt (mul-lt-mul_of_pos_right (omega (arith, odd-square q)) p) h)) p

-- a number of 53 digits above a power of two, whose root has as many above 2 ^ k, is a whole number of 4 ^ k
fourfold : (m i k : ℕ) → m < 2 ^ 53 → 2 ^ 52 * 2 ^ k * (2 ^ 52 * 2 ^ k) ≤ m * 2 ^ i → m * 2 ^ i ≡ m * 2 ^ (i - (k + k)) * (2 ^ k * 2 ^ k)
fourfold m i k l h =
    let K = 52 + k in
    let square : 2 ^ (K + K) ≡ 2 ^ 52 * 2 ^ k * (2 ^ 52 * 2 ^ k) = pow-add 2 K K ∙ ap (λ (x : ℕ). x * x) (pow-add 2 52 k) in
    let small = mul-lt-mul_of_pos_right l (pow_pos i) in
    let room : k + k ≤ i =
    omega (arith, lt_of_not-le (λ (g : 53 + i ≤ K + K). not-le_of_lt (lt_of_le_of_lt h small) (omega (arith, pow_mono g, pow-add 2 53 i)))) in
    let split : i ≡ i - (k + k) + (k + k) = omega arith in
    ap (λ (z : ℕ). m * 2 ^ z) split
    ∙ ap (λ (z : ℕ). m * z) (pow-add 2 (i - (k + k)) (k + k) ∙ ap (λ (z : ℕ). 2 ^ (i - (k + k)) * z) (pow-add 2 k k))
    ∙ sym (mul_assoc m (2 ^ (i - (k + k))) (2 ^ k * 2 ^ k))

module _ (n : ℕ) where
  pub square_le : (v : ℕ) → 2 * v ≤ halves n → v * v ≤ n
  square_le v h = le_of_suc-le-suc (lt_of_not-le (λ (g : n < v * v). not-le_of_lt (below n v g) h))

  square-ge : (u : ℕ) → halves n ≤ 2 * u → n ≤ u * u
  square-ge u h = le_of_suc-le-suc (lt_of_not-le (λ (g : u * u < n). not-le_of_lt (above n u g) h))

-- a multiple of 2 ^ (j + 1) is even, and its square is four times that of its half
even : (s j : ℕ) → s * 2 ^ suc j ≡ 2 * (s * 2 ^ j)
even s j = ap (λ (x : ℕ). s * x) (pow-succ' 2 j) ∙ mul_left_comm s 2 (2 ^ j)

even-square : (s j : ℕ) → s * 2 ^ suc j * (s * 2 ^ suc j) ≡ 4 * (s * 2 ^ j * (s * 2 ^ j))
even-square s j = ap (λ (x : ℕ). x * x) (even s j) ∙ twice-squared (s * 2 ^ j)

-- n is a number of 53 digits above a power of two
module _ (n m i : ℕ) (digits : m < 2 ^ 53) (is : n ≡ m * 2 ^ i) where
  enclosed : (r j : ℕ) → Near (halves n) (2 * 2 ^ suc j) r → 2 ^ 52 * 2 ^ suc j ≤ halves n / 2 → halves n / 2 < 2 ^ 53 * 2 ^ suc j → Enclosed n r (suc j)
  enclosed r j near reaches within =
      let P = 2 ^ suc j in
      let Q = P * P in
      let p : 0 < Q = mul-pos (pow_pos (suc j)) (pow_pos (suc j)) in
      let twice = mul_left_comm r 2 P in
      let least : 2 ^ 52 ≤ r = le_of_suc-le-suc (lt_of_mul-lt-mul_right P (omega (arith, pow_pos (suc j), suc-mul r P))) in
      let s = 2 * r - 1 in
      let t = 2 * r + 1 in
      let odd : suc s * P ≡ 2 * r * P = ap (λ (x : ℕ). x * P) (omega arith) in
      let low : 2 ^ 52 * P * (2 ^ 52 * P) ≤ n = square_le n (2 ^ 52 * P) (omega arith) in
      let w = m * 2 ^ (i - (suc j + suc j)) in
      let whole : 4 * n ≡ 4 * w * Q = ap (λ (x : ℕ). 4 * x) (is ∙ fourfold m i (suc j) digits (subst (λ (x : ℕ). 2 ^ 52 * P * (2 ^ 52 * P) ≤ x) is low)) ∙ sym (mul_assoc 4 w Q) in
      let before : s ≡ 2 * (r - 1) + 1 = omega (arith, least) in
      let under : s * P * (s * P) ≤ 4 * n = omega (arith, even-square s j, square_le n (s * 2 ^ j) (omega (arith, even s j, suc-mul s P, odd, mul_assoc 2 r P))) in
      let over : 4 * n ≤ t * P * (t * P) = omega (arith, even-square t j, square-ge n (t * 2 ^ j) (omega (arith, even t j, add-mul (2 * r) 1 P, mul_assoc 2 r P))) in
      let lower : s * P * (s * P) ≡ (2 * (r - 1) + 1) * (2 * (r - 1) + 1) * Q = mul-mul-mul_comm s P s P ∙ ap (λ (x : ℕ). x * x * Q) before in
      let upper : t * P * (t * P) ≡ t * t * Q = mul-mul-mul_comm t P t P in
      record {
        low = low;
        high = lt_of_not-le (λ (g : 2 ^ 53 * P * (2 ^ 53 * P) ≤ n). not-le_of_lt within (omega (arith, from n (2 ^ 53 * P) g)));
        least = least;
        most = le_of_suc-le-suc (lt_of_mul-lt-mul_right P (omega (arith, pow_pos (suc j))));
        under = omega (arith, whole, lower, odd-below (r - 1) w Q p (omega (arith, whole, lower, under)));
        over = omega (arith, whole, upper, odd-above r w Q p (omega (arith, whole, upper, over)));
      }

-- the digits of the root of n units that are dropped, and the nearest number that is left
pub record Rounded (n : ℕ) : Type 0 where
  pub j : ℕ
  pub dropped : size (halves n / 2) - 53 ≡ suc j
  pub inside : Enclosed n (closest (halves n) (2 * 2 ^ suc j)) (suc j)

pub rounded : (m i : ℕ) → 0 < m → m < 2 ^ 53 → m * 2 ^ i < 2 ^ 2098 → Rounded (m * 2 ^ i * 2 ^ 1074)
rounded m i positive digits l =
    let a = m * 2 ^ i in
    let p : 0 < a = mul-pos positive (pow_pos i) in
    let n = a * 2 ^ 1074 in
    let scaled : n ≡ m * 2 ^ (i + 1074) = mul_assoc m (2 ^ i) (2 ^ 1074) ∙ ap (λ (z : ℕ). m * z) (sym (pow-add 2 i 1074)) in
    let q = halves n / 2 in
    let lo = from n (2 ^ 54) (le_trans (lit≤ tt) (mul-le-mul_right (2 ^ 1074) p)) in
    let more : 54 < size q = lt_of_not-le (λ (g : size q ≤ 54). omega (arith, size-lt q, pow_mono g)) in
    let k = suc (size q - 54) in
    let e : size q ≡ 53 + k = omega arith in
    record {
      j = size q - 54;
      dropped = omega arith;
      inside =
          enclosed n m (i + 1074) digits scaled (closest (halves n) (2 * 2 ^ k)) (size q - 54) (closest-near (halves n) (2 * 2 ^ k) (omega (arith, pow_pos k)))
          (le_trans (le_of_eq (sym (pow-add 2 52 k))) (size_reaches q (52 + k) (omega arith)))
          (lt_of_lt_of_le (size-lt q) (le_of_eq (ap (λ (z : ℕ). 2 ^ z) e ∙ pow-add 2 53 k)));
    }

-- no more than 2 ^ 2098 units: at most so many digits are dropped
few-dropped : (n a : ℕ) → n ≡ a * 2 ^ 1074 → a < 2 ^ 2098 → size (halves n / 2) ≤ 1586
few-dropped n a is l =
    let hi : halves n / 2 < 2 ^ 1586 = (div-lt_iff_lt-mul (lit< tt)).1 (below n (2 ^ 1586) (rw (sym is) at (mul-lt-mul_of_pos_right l (pow_pos 1074)))) in
    size-le (halves n / 2) 1586 hi

-- x is m * 2 ^ i units, and its root, in units, is that of m * 2 ^ i * 2 ^ 1074
pub sqrt-of-units-enclosed : (x : Float) (m i : ℕ) → 0 < m → m < 2 ^ 53 → m * 2 ^ i < 2 ^ 2098 → HasValue x false (m * 2 ^ i) (2 ^ 1074)
    → (r : ℕ) × (k : ℕ) × HasValue (sqrt_of x) false (r * 2 ^ k) (2 ^ 1074) × Enclosed (m * 2 ^ i * 2 ^ 1074) r k
sqrt-of-units-enclosed x m i positive digits l v =
    let a = m * 2 ^ i in
    let p : 0 < a = mul-pos positive (pow_pos i) in
    let n = a * 2 ^ 1074 in
    let t = rounded m i positive digits l in
    let k = suc t.j in
    let r = closest (halves n) (2 * 2 ^ k) in
    let less = few-dropped n a refl l in
    let few : 53 + k < 2098 = omega (arith, less, t.dropped) in
    let room : r * 2 ^ k < 2 ^ 2098 =
    lt_of_le_of_lt (le_trans (mul-le-mul_right (2 ^ k) t.inside.most) (le_of_eq (sym (pow-add 2 53 k)))) (pow-lt {i = 53 + k} {j = 2098} few) in
    let is : sqrt_of x ≡ units binary64 false r k = sqrt-of-units x a p v ∙ root_is n k t.dropped in
    (r, k, subst (λ (y : Float). HasValue y false (r * 2 ^ k) (2 ^ 1074)) (sym is) (units_val binary64 false r k room), t.inside)

-- every finite value is its digits times a power of two units
pub scaled : (m : ℕ) (e : ℤ) → down e ≤ 2 ^ 1074 → (i : ℕ) × (m * up e * 2 ^ 1074 ≡ m * 2 ^ i * down e)
scaled m (pos i) h = (i + 1074, mul_assoc m (2 ^ i) (2 ^ 1074) ∙ ap (λ (z : ℕ). m * z) (sym (pow-add 2 i 1074)) ∙ sym (mul-one (m * 2 ^ (i + 1074))))
scaled m (negsuc i) h =
    let l : suc i ≤ 1074 = le_of_suc-le-suc (lt_of_not-le (λ (g : 1074 < suc i). not-le_of_lt (pow-lt g) h)) in
    let j = 1074 - suc i in
    let e : j + suc i ≡ 1074 = omega arith in
    (j, ap (λ (z : ℕ). z * 2 ^ 1074) (mul-one m) ∙ ap (λ (z : ℕ). m * z) (ap (λ (z : ℕ). 2 ^ z) (sym e) ∙ pow-add 2 j (suc i)) ∙ sym (mul_assoc m (2 ^ j) (2 ^ suc i)))

-- so it holds of every positive finite x
pub sqrt-enclosed : (x : Float) → T (fits binary64 x) → T (positive x)
    → (a : ℕ) × (r : ℕ) × (k : ℕ) × HasValue x false a (2 ^ 1074) × HasValue (sqrt_of x) false (r * 2 ^ k) (2 ^ 1074) × Enclosed (a * 2 ^ 1074) r k
sqrt-enclosed nan f p = absurd p
sqrt-enclosed (inf s) f p = absurd p
sqrt-enclosed (fin true m e) f p = absurd p
sqrt-enclosed (fin false zero e) f p = absurd p
sqrt-enclosed (fin false (suc m) e) f p =
    let x = fin false (suc m) e in
    let held = units_of_lem m e f in
    let in-units = scaled (suc m) e held.lowest in
    let i = in-units.0 in
    let a = suc m * 2 ^ i in
    let v : HasValue x false a (2 ^ 1074) = (refl, in-units.1) in
    let l : a < 2 ^ 2098 = subst (λ (z : ℕ). z < 2 ^ 2098) (ap (λ (z : ℕ). z / down e) in-units.1 ∙ mul-div_cancel a (down_pos e)) held.highest in
    let z = sqrt-of-units-enclosed x (suc m) i (omega arith) held.digits l v in
    (a, z.0, z.1, v, z.2, z.3)
