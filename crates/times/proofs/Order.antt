-- The order of ℤ by its tests, and how it goes with sums and differences; no bound on the numbers.
-- Assumes nothing.
use Prim.Native.Nat.{ℕ, zero, suc, ◌+◌, ◌-◌, ◌≤◌, ◌<◌, zero-le}
use native.Mathlib.Omega.{arith}
use mathlib.Core.Path.{◌≡◌, refl, sym, ap, ◌∙◌}
use mathlib.Core.Bool.{true, false, not, false≢true}
use borrow.Author.Tests.{lt-ltb, le-ltb, le-leb, lt-leb, ltb-true, ltb-false, leb-true, leb-false, not-false}
use lib.Dec.{ltb, leb}
use lib.IntN.{ℤ, pos, negsuc, neg_ℤ, nat_abs, ◌+ℤ◌, ◌-ℤ◌, +ℤ_assoc, +ℤ_comm, +ℤ_idr, +ℤ-neg_ℤ_cancel, -ℤ-+ℤ_cancel}
use lib.Signed.{lt_z, le_z}
use Rattle.ieee.proofs.Tests.{by-test}

-- two tests with the same answer
pub same-leb : (m n k l : ℕ) → (m ≤ n → k ≤ l) → (n < m → l < k) → leb m n ≡ leb k l
same-leb m n k l up down =
    by-test (leb m n) (λ e. e ∙ sym (le-leb k l (up (leb-true m n e)))) (λ e. e ∙ sym (lt-leb k l (down (leb-false m n e))))

ltb-not-leb : (m n : ℕ) → ltb m n ≡ not (leb n m)
ltb-not-leb m n = by-test (leb n m) (λ e. rw e (le-ltb m n (leb-true n m e))) (λ e. rw e (lt-ltb m n (leb-false n m e)))

-- below is not at most the other way round
pub lt_not_le : (a b : ℤ) → lt_z a b ≡ not (le_z b a)
lt_not_le (pos a) (pos b) = ltb-not-leb a b
lt_not_le (pos a) (negsuc b) = refl
lt_not_le (negsuc a) (pos b) = refl
lt_not_le (negsuc a) (negsuc b) = ltb-not-leb b a

pub not_below : (a b : ℤ) → lt_z a b ≡ false → le_z b a ≡ true
not_below a b e = not-false (le_z b a) (sym (lt_not_le a b) ∙ e)

pub le_trans : (a b c : ℤ) → le_z a b ≡ true → le_z b c ≡ true → le_z a c ≡ true
le_trans (pos a) (pos b) (pos c) h k = le-leb a c (omega (arith, leb-true a b h, leb-true b c k))
le_trans (pos a) (pos b) (negsuc c) h k = k
le_trans (pos a) (negsuc b) c h k = cc
le_trans (negsuc a) b (pos c) h k = refl
le_trans (negsuc a) (pos b) (negsuc c) h k = cc
le_trans (negsuc a) (negsuc b) (negsuc c) h k = le-leb c a (omega (arith, leb-true b a h, leb-true c b k))

pub le_refl : (a : ℤ) → le_z a a ≡ true
le_refl (pos a) = le-leb a a (omega arith)
le_refl (negsuc a) = le-leb a a (omega arith)

pub lt-le : (a b : ℤ) → lt_z a b ≡ true → le_z a b ≡ true
lt-le (pos a) (pos b) h = le-leb a b (omega (arith, ltb-true a b h))
lt-le (pos a) (negsuc b) h = h
lt-le (negsuc a) (pos b) h = refl
lt-le (negsuc a) (negsuc b) h = le-leb b a (omega (arith, ltb-true b a h))

-- what is not below a number that is after t is after t
pub after-trans : (a b t : ℤ) → le_z a b ≡ true → le_z a t ≡ false → le_z b t ≡ false
after-trans a b t h k = by-test (le_z b t) (λ e. cc (le_trans a b t h e)) (λ e. e)

-- ---- a whole number of milliseconds after s

-- the distance to it
pub offset : (s z : ℤ) → (s +ℤ z) -ℤ s ≡ z
offset s z = rw (+ℤ_comm s z) (+ℤ-neg_ℤ_cancel z s)

-- each number that is not below s is so
pub offset-of : (s e : ℤ) → le_z s e ≡ true → e -ℤ s ≡ pos (nat_abs (e -ℤ s))
offset-of (pos zero) (pos n) h = refl
offset-of (pos (suc m)) (pos n) h = rw (le-ltb n (suc m) (leb-true (suc m) n h))
offset-of (pos m) (negsuc n) h = cc
offset-of (negsuc m) (pos n) h = refl
offset-of (negsuc m) (negsuc n) h = rw (le-ltb (suc m) (suc n) (omega (arith, leb-true n m h)))

pub offset-end : (s e : ℤ) → le_z s e ≡ true → e ≡ s +ℤ pos (nat_abs (e -ℤ s))
offset-end s e h = sym (-ℤ-+ℤ_cancel e s) ∙ +ℤ_comm (e -ℤ s) s ∙ ap (λ (z : ℤ). s +ℤ z) (offset-of s e h)

-- its order is that of the distances
pub le-offset : (s : ℤ) (x y : ℕ) → le_z (s +ℤ pos x) (s +ℤ pos y) ≡ leb x y
le-offset (pos m) x y = same-leb (m + x) (m + y) x y (λ h. omega arith) (λ h. omega arith)
le-offset (negsuc m) x y =
    by-test (ltb x (suc m))
    (λ e. by-test (ltb y (suc m))
    (λ d. rw (e, d) (same-leb (suc m - suc y) (suc m - suc x) x y (λ h. omega (arith, ltb-true)) (λ h. omega (arith, ltb-true))))
    (λ d. rw (e, d) (sym (le-leb x y (omega (arith, ltb-true, ltb-false))))))
    (λ e. by-test (ltb y (suc m))
    (λ d. rw (e, d) (sym (lt-leb x y (omega (arith, ltb-true, ltb-false)))))
    (λ d. rw (e, d) (same-leb (x - suc m) (y - suc m) x y (λ h. omega (arith, ltb-false)) (λ h. omega (arith, ltb-false)))))

pub le-after : (s : ℤ) (n : ℕ) → le_z s (s +ℤ pos n) ≡ true
le-after s n = ap (λ (z : ℤ). le_z z (s +ℤ pos n)) (sym (+ℤ_idr s)) ∙ le-offset s 0 n ∙ le-leb 0 n zero-le

-- taking the same away keeps the order
pub le-sub : (a b w : ℤ) → le_z a b ≡ true → le_z (a -ℤ w) (b -ℤ w) ≡ true
le-sub a b w h =
    let n = nat_abs (b -ℤ a) in
    let moved : b -ℤ w ≡ a -ℤ w +ℤ pos n =
    ap (λ (z : ℤ). z -ℤ w) (offset-end a b h) ∙ +ℤ_assoc a (pos n) (neg_ℤ w) ∙ rw (+ℤ_comm (pos n) (neg_ℤ w)) (sym (+ℤ_assoc a (neg_ℤ w) (pos n))) in
    ap (le_z (a -ℤ w)) moved ∙ le-after (a -ℤ w) n

-- and taking away what is not negative gives no more
pub sub-le : (t w : ℤ) → le_z (pos 0) w ≡ true → le_z (t -ℤ w) t ≡ true
sub-le t (pos n) h = ap (le_z (t -ℤ pos n)) (sym (-ℤ-+ℤ_cancel t (pos n))) ∙ le-after (t -ℤ pos n) n
sub-le t (negsuc n) h = absurd (false≢true h)
