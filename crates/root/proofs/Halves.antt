-- `halves n` lies among the even numbers as twice the root of n does. Assumes nothing.
use mathlib.Core.Bool.{Bool, true, false, not, cond}
use Prim.Native.Nat.{ℕ, suc, ◌+◌, ◌*◌, ◌≤◌, ◌<◌}
use native.Mathlib.Nat.{lt_of_not-le, not-le_of_lt, mul-le-mul}
use native.Mathlib.Omega.{arith}
use lib.Dec.{T, ltb, nltb→le}
use Rattle.root.specs.Root.{isqrt, halves}
use Rattle.root.proofs.Whole.{isqrt-is}

-- squares are in the order of their roots
pub root-lt : (x y : ℕ) → x * x < y * y → x < y
root-lt x y h = lt_of_not-le (λ (g : y ≤ x). not-le_of_lt h (mul-le-mul g g))

module _ (n : ℕ) where
  pub above : (v : ℕ) → v * v < n → 2 * v < halves n
  unfolding halves
  above v h = go (ltb (isqrt n * isqrt n) n) (nltb→le (isqrt n * isqrt n) n)
    where
      go : (b : Bool) → (T (not b) → n ≤ isqrt n * isqrt n) → 2 * v < 2 * isqrt n + cond b 1 0
      go true k = omega (arith, root-lt v (suc (isqrt n)) (omega (arith, (isqrt-is n).1)))
      go false k = omega (arith, root-lt v (isqrt n) (omega (arith, k tt)))

  pub from : (v : ℕ) → v * v ≤ n → 2 * v ≤ halves n
  unfolding halves
  from v h = omega (arith, root-lt v (suc (isqrt n)) (omega (arith, (isqrt-is n).1)))

  pub below : (u : ℕ) → n < u * u → halves n < 2 * u
  unfolding halves
  below u h = go (ltb (isqrt n * isqrt n) n)
    where
      q : isqrt n < u
      q = root-lt (isqrt n) u (omega (arith, (isqrt-is n).0))

      go : (b : Bool) → 2 * isqrt n + cond b 1 0 < 2 * u
      go true = omega (arith, q)
      go false = omega (arith, q)
