-- `isqrt n` is the whole part of the root of n: its square is at most n, and the next number's is above it. Assumes nothing.
use mathlib.Core.Path.{◌≡◌, ap, ◌∙◌}
use mathlib.Core.Bool.{Bool, true, false, not, cond}
use Prim.Native.Nat.{ℕ, zero, suc, ◌*◌, ◌/◌, ◌^◌, ◌≤◌, ◌<◌}
use native.Mathlib.Nat.{mul-mul-mul_comm, pow-le-pow_left, pow-succ', lt_of_lt_of_le}
use native.Mathlib.Omega.{arith}
use lib.Dec.{T, leb, leb→le, nleb→lt}
use lib.Ieee.{size}
use lib.Ieee.Digits.{size-lt}
use Rattle.root.specs.Root.{last_digit, root_by, isqrt}

-- r is the whole part of the root of n
abbrev pub IsRoot : ℕ → ℕ → Type 0
IsRoot n r = (r * r ≤ n) × (n < suc r * suc r)

pub twice-squared : (r : ℕ) → 2 * r * (2 * r) ≡ 4 * (r * r)
twice-squared r = mul-mul-mul_comm 2 r 2 r

last-digit : (n r : ℕ) → IsRoot (n / 4) r → IsRoot n (last_digit (2 * r) n)
unfolding last_digit
last-digit n r h = go (leb (suc (2 * r) * suc (2 * r)) n) (leb→le (suc (2 * r) * suc (2 * r)) n) (nleb→lt (suc (2 * r) * suc (2 * r)) n)
  where
    next : suc (suc (2 * r)) * suc (suc (2 * r)) ≡ 4 * (suc r * suc r)
    next =
        let e : suc (suc (2 * r)) ≡ 2 * suc r = omega arith in
        ap (λ (x : ℕ). x * x) e ∙ twice-squared (suc r)

    go : (b : Bool) → (T b → suc (2 * r) * suc (2 * r) ≤ n) → (T (not b) → n < suc (2 * r) * suc (2 * r)) → IsRoot n (cond b (suc (2 * r)) (2 * r))
    go true l g = (l tt, omega (arith, h.1, next))
    go false l g = (omega (arith, h.0, twice-squared r), g tt)

root_by_lem : (k n : ℕ) → n < 4 ^ k → IsRoot n (root_by k n)
unfolding root_by
root_by_lem zero n h = (omega arith, omega arith)
root_by_lem (suc k) n h = last-digit n (root_by k (n / 4)) (root_by_lem k (n / 4) (omega (arith, pow-succ' 4 k)))

pub isqrt-is : (n : ℕ) → IsRoot n (isqrt n)
unfolding isqrt
isqrt-is n = root_by_lem (size n) n (lt_of_lt_of_le (size-lt n) (pow-le-pow_left (omega arith) (size n)))
