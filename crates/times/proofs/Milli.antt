-- Milliseconds as the machine holds them: what is read back from the bits of an `i64`, and the limits of sums, differences and tests.
-- Assumes nothing.
use Prim.Native.Nat.{ℕ, zero, suc, ◌+◌, ◌^◌, ◌≤◌, ◌<◌}
use native.Mathlib.Omega.{arith}
use mathlib.Core.Path.{◌≡◌, refl, ap₂}
use mathlib.Core.Bool.{Bool, true, ◌&&◌, and-true, false≢true}
use borrow.Author.Tests.{ltb-true, leb-true}
use lib.Dec.{T, ltb, leb, ltb→lt, leb-zero, leb-suc-zero, leb-suc-suc}
use lib.IntN.{ℤ, pos, negsuc, neg_ℤ, nat_abs, sub_ℕ, ◌+ℤ◌, ◌-ℤ◌}
use lib.Signed.{le_z, mag}
use mir.Syntax.{w64}
use mir.Val.{SFits, to_z, of_z}
use mir.Facts.{to_z-of_z}
use Rattle.times.specs.Milli.{Within}
use Rattle.ieee.proofs.Tests.{by-test}

-- what the machine reads back from the bits of an `i64`
abbrev pub stored_and_read : ℤ → ℤ
stored_and_read t = to_z w64 (of_z w64 t)

-- is the number
pub read_back : (t : ℤ) → mag t < 2 ^ 63 → stored_and_read t ≡ t
read_back t h = to_z-of_z {w = w64} (record { sfits = h })

-- so a test on what it reads back is the test on the numbers
pub read : {a b : ℤ} → SFits w64 a → SFits w64 b → (test : ℤ → ℤ → Bool) → test (stored_and_read a) (stored_and_read b) ≡ test a b
read f g test = ap₂ test (to_z-of_z f) (to_z-of_z g)

-- ---- limits

nat_abs-subℕ : (x y : ℕ) → nat_abs (sub_ℕ x y) ≤ x + y
nat_abs-subℕ x y = by-test (ltb x y) (λ e. rw e (omega (arith, ltb-true x y e))) (λ e. rw e (omega arith))

pub nat_abs-add : (a b : ℤ) → nat_abs (a +ℤ b) ≤ nat_abs a + nat_abs b
nat_abs-add (pos m) (pos n) = omega arith
nat_abs-add (pos m) (negsuc n) = nat_abs-subℕ m (suc n)
nat_abs-add (negsuc m) (pos n) = omega (arith, nat_abs-subℕ n (suc m))
nat_abs-add (negsuc m) (negsuc n) = omega arith

pub nat_abs-neg : (a : ℤ) → nat_abs (neg_ℤ a) ≡ nat_abs a
nat_abs-neg (pos zero) = refl
nat_abs-neg (pos (suc n)) = refl
nat_abs-neg (negsuc n) = refl

pub nat_abs-sub : (a b : ℤ) → nat_abs (a -ℤ b) ≤ nat_abs a + nat_abs b
nat_abs-sub a b = omega (arith, nat_abs-add a (neg_ℤ b), nat_abs-neg b)

pub within-add : {j k : ℕ} {a b : ℤ} → Within j a → Within k b → Within (j + k) (a +ℤ b)
within-add {a} {b} f g = record { size = omega (arith, nat_abs-add a b) }

pub within-sub : {j k : ℕ} {a b : ℤ} → Within j a → Within k b → Within (j + k) (a -ℤ b)
within-sub {a} {b} f g = record { size = omega (arith, nat_abs-sub a b) }

-- between two numbers within a limit
pub within-between : {k : ℕ} {a b t : ℤ} → Within k a → Within k b → le_z a t ≡ true → le_z t b ≡ true → Within k t
within-between {a} {b = pos n} {t = pos m} f g h l = record { size = omega (arith, leb-true m n l) }
within-between {a} {b = negsuc n} {t = pos m} f g h l = absurd (false≢true l)
within-between {a = negsuc n} {b} {t = negsuc m} f g h l = record { size = omega (arith, leb-true m n h) }
within-between {a = pos n} {b} {t = negsuc m} f g h l = absurd (false≢true h)

-- a number within a limit below 2^63 is an `i64`: `within-fits tt`
pub within-fits : {k : ℕ} {t : ℤ} → T (ltb k (2 ^ 63)) → Within k t → SFits w64 t
within-fits {k} {t = pos n} l f = record { sfits = omega (arith, ltb→lt k (2 ^ 63) l) }
within-fits {k} {t = negsuc n} l f = record { sfits = omega (arith, ltb→lt k (2 ^ 63) l) }

-- a limit as the code tests it
pub within-test : (k : ℕ) (t : ℤ) → leb (nat_abs t) k ≡ (le_z (neg_ℤ (pos k)) t && le_z t (pos k))
within-test zero (pos n) = rw (leb-zero n)
within-test (suc k) (pos n) = refl
within-test zero (negsuc n) = leb-suc-zero n
within-test (suc k) (negsuc n) = rw (leb-suc-suc n k, and-true (leb n k))
