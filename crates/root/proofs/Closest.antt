-- `closest a b`, the whole number nearest to a / b, lies within a half of it, and is the only number that lies nearer than a half. Assumes nothing.
use mathlib.Core.Path.{◌≡◌}
use mathlib.Core.Bool.{not}
use Prim.Native.Nat.{ℕ, ◌+◌, ◌*◌, ◌/◌, ◌%◌, ◌≤◌, ◌<◌, compare, Ordering}
use native.Mathlib.Nat.{suc-mul, add-mul, mul-le-mul_right, le_antisymm, lt_of_mul-lt-mul_right, div-add-mod', mod-lt, le_of_suc-le-suc}
use native.Mathlib.Omega.{arith}
use lib.Dec.{T, is_le, compare_is_eq, leb→le, nleb→lt, eqb→eq}
use lib.Ieee.{nearest}
use lib.Ieee.Nearest.{closest}

-- c is a / b to within a half
abbrev pub Near : ℕ → ℕ → ℕ → Type 0
Near a b c = (2 * (c * b) ≤ 2 * a + b) × (2 * a ≤ 2 * (c * b) + b)

pub closest-near : (a b : ℕ) → 0 < b → Near a b (closest a b)
closest-near a b B = go (compare (a % b * 2) b) (leb→le (a % b * 2) b) (nleb→lt (a % b * 2) b) (eqb→eq (a % b * 2) b)
  where
    go : (o : Ordering) → (T (is_le o) → a % b * 2 ≤ b) → (T (not (is_le o)) → b < a % b * 2) → (T (compare_is_eq o) → a % b * 2 ≡ b) → Near a b (nearest (a / b) o)
    go Ordering.lt l g e = let h = l tt in omega (arith, div-add-mod' a b)
    go Ordering.eq l g e =
        let h = e tt in
        let r : a / b % 2 ≤ 1 = omega arith in
        omega (arith, div-add-mod' a b, add-mul (a / b) (a / b % 2) b, mul-le-mul_right b r)
    go Ordering.gt l g e = let h = g tt in omega (arith, div-add-mod' a b, mod-lt a B, suc-mul (a / b) b)

pub closest-is : (a b c : ℕ) → 0 < b → 2 * (c * b) < 2 * a + b → 2 * a < 2 * (c * b) + b → closest a b ≡ c
closest-is a b c B low high =
    let q = closest a b in
    let near = closest-near a b B in
    let le : q ≤ c = le_of_suc-le-suc (lt_of_mul-lt-mul_right b (omega (arith, near.0, suc-mul c b))) in
    let ge : c ≤ q = le_of_suc-le-suc (lt_of_mul-lt-mul_right b (omega (arith, near.1, suc-mul q b))) in
    le_antisymm le ge
