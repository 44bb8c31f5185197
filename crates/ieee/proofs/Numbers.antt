-- Which sums, differences and quotients are numbers, and no NaN. A NaN comes of two infinities, or of a division by zero.
-- Assumes nothing.
use Rattle.std.proofs.Common.{◌≡◌, ℕ, zero, suc, ◌+◌, ◌-◌, ◌*◌, ◌^◌, ◌<◌, ◌≤◌, Bool, true, false, cond, not, ◌&&◌, T, ltb, ℤ, pos, sym, refl, ap, ◌∙◌, true≢false, mul_assoc, mul_comm, add_comm, mul-pos, arith, lit<, ltb-false, ltb-true, le-ltb}
use mathlib.Core.Bool.{beq, false≢true}
use lib.Dec.{eqb-suc-zero}
use lib.Ieee.{Float, nan, inf, fin, Format, binary64, unlike, of_bits, of_int, emax, low, prec, up, down, odd, units, round, sum, neg, add, sub, div, is_nan}
use lib.Ieee.Fits.{down_pos}
use lib.Ieee.Scale.{finite, round_same}
use lib.Ieee.Positive.{positive, between}
use lib.Ieee.Order.{round_mono}
use lib.Ieee.Exact.{HasValue}
use Rattle.ieee.proofs.Exact.{count-exact}
use Rattle.ieee.proofs.Patterns.{odd-finite}
use Rattle.ieee.proofs.Tests.{by-test}
use Rattle.ieee.specs.Value.{seconds_of}

-- ---- what `round` gives is a number, and whether it is finite does not turn on the sign

units-finite : (f : Format) (s : Bool) (q k : ℕ) → finite (units f s q k) ≡ ltb (q * 2 ^ k) (2 ^ (low f + suc (emax f)))
unfolding units
units-finite f s q k = by-test (ltb (q * 2 ^ k) (2 ^ (low f + suc (emax f)))) (λ e. rw e (odd-finite (suc (prec f)) s q k (low f))) (λ e. rw e)

round-sign : (f : Format) (s t : Bool) (a b : ℕ) → finite (round f s a b) ≡ finite (round f t a b)
unfolding round
round-sign f s t a b = units-finite f s _ _ ∙ sym (units-finite f t _ _)

pub finite_number : (x : Float) → finite x ≡ true → is_nan x ≡ false
unfolding is_nan
finite_number nan e = absurd (false≢true e)
finite_number (inf s) e = refl
finite_number (fin s m e) h = refl

units_number : (f : Format) (s : Bool) (q k : ℕ) → is_nan (units f s q k) ≡ false
unfolding units is_nan
units_number f s q k =
    by-test (ltb (q * 2 ^ k) (2 ^ (low f + suc (emax f))))
    (λ e. rw e (finite_number (odd (suc (prec f)) s q k (low f)) (odd-finite (suc (prec f)) s q k (low f))))
    (λ e. rw e)

pub round_number : (f : Format) (s : Bool) (a b : ℕ) → is_nan (round f s a b) ≡ false
unfolding round
round_number f s a b = units_number f s _ _

-- ---- sums and differences

sum_number : (f : Format) (s : Bool) (a : ℕ) (t : Bool) (b c : ℕ) → is_nan (sum f s a t b c) ≡ false
unfolding sum
sum_number f s a t b c =
    by-test (beq s t)
    (λ e. rw e (round_number f s (a + b) c))
    (λ e. by-test (ltb a b) (λ g. rw (e, g) (round_number f t (b - a) c)) (λ g. rw (e, g) (round_number f (s && ltb b a) (a - b) c)))

fin-add-number : (f : Format) (s : Bool) (m : ℕ) (e : ℤ) (t : Bool) (n : ℕ) (d : ℤ) → is_nan (add f (fin s m e) (fin t n d)) ≡ false
unfolding add
fin-add-number f s m e t n d = sum_number f s (m * up e * down d) t (n * up d * down e) (down e * down d)

-- one of the two is finite
pub add-number : (f : Format) (x y : Float) → is_nan x ≡ false → finite y ≡ true → is_nan (add f x y) ≡ false
unfolding add is_nan
add-number f nan y h k = absurd (true≢false h)
add-number f (inf s) nan h k = absurd (false≢true k)
add-number f (inf s) (inf t) h k = absurd (false≢true k)
add-number f (inf s) (fin t n d) h k = refl
add-number f (fin s m e) nan h k = absurd (false≢true k)
add-number f (fin s m e) (inf t) h k = absurd (false≢true k)
add-number f (fin s m e) (fin t n d) h k = fin-add-number f s m e t n d

pub finite-add-number : (f : Format) (x y : Float) → finite x ≡ true → is_nan y ≡ false → is_nan (add f x y) ≡ false
unfolding add is_nan
finite-add-number f nan y h k = absurd (false≢true h)
finite-add-number f (inf s) y h k = absurd (false≢true h)
finite-add-number f (fin s m e) nan h k = absurd (true≢false k)
finite-add-number f (fin s m e) (inf t) h k = refl
finite-add-number f (fin s m e) (fin t n d) h k = fin-add-number f s m e t n d

neg-finite : (x : Float) → finite (neg x) ≡ finite x
unfolding neg
neg-finite nan = refl
neg-finite (inf s) = refl
neg-finite (fin s m e) = refl

pub sub_number : (f : Format) (x y : Float) → is_nan x ≡ false → finite y ≡ true → is_nan (sub f x y) ≡ false
unfolding sub
sub_number f x y h k = add-number f x (neg y) h (neg-finite y ∙ k)

-- ---- a difference overflows where the one the other way does

differ : (f : Format) (s t s' t' : Bool) (a b c : ℕ) →
    finite (cond (ltb a b) (round f s (b - a) c) (round f t (a - b) c)) ≡ finite (cond (ltb b a) (round f s' (a - b) c) (round f t' (b - a) c))
differ f s t s' t' a b c =
    by-test (ltb a b)
    (λ e. rw (e, le-ltb b a (omega (arith, ltb-true a b e))) (round-sign f s t' (b - a) c))
    (λ e. by-test (ltb b a)
    (λ g. rw (e, g) (round-sign f t s' (a - b) c))
    (λ g. let same : a - b ≡ b - a = omega (arith, ltb-false a b e, ltb-false b a g) in rw (e, g, same) (round-sign f t t' (b - a) c)))

sum-swap : (f : Format) (s t : Bool) (a b c : ℕ) → finite (sum f s a t b c) ≡ finite (sum f (not t) b (not s) a c)
unfolding sum
sum-swap f true true a b c = rw (add_comm a b) (round-sign f true false (b + a) c)
sum-swap f false false a b c = rw (add_comm a b) (round-sign f false true (b + a) c)
sum-swap f true false a b c = differ f _ _ _ _ a b c
sum-swap f false true a b c = differ f _ _ _ _ a b c

pub sub-swap : (f : Format) (s : Bool) (m : ℕ) (e : ℤ) (t : Bool) (n : ℕ) (d : ℤ) → finite (sub f (fin s m e) (fin t n d)) ≡ finite (sub f (fin t n d) (fin s m e))
unfolding sub add neg
sub-swap f s m e true n d = sum-swap f s false _ _ _ ∙ rw (mul_comm (down e) (down d))
sub-swap f s m e false n d = sum-swap f s true _ _ _ ∙ rw (mul_comm (down e) (down d))

-- ---- quotients

pub div-number : (f : Format) (x y : Float) → is_nan x ≡ false → T (positive y) → is_nan (div f x y) ≡ false
unfolding div is_nan
div-number f nan y h p = absurd (true≢false h)
div-number f (inf s) nan h p = absurd p
div-number f (inf s) (inf t) h p = absurd p
div-number f (inf s) (fin t n d) h p = refl
div-number f (fin s m e) nan h p = absurd p
div-number f (fin s m e) (inf t) h p = absurd p
div-number f (fin s m e) (fin true n d) h p = absurd p
div-number f (fin s m e) (fin false zero d) h p = absurd p
div-number f (fin s m e) (fin false (suc n) d) h p = rw (eqb-suc-zero n) (round_number f (unlike s false) (m * up e * down d) (suc n * up d * down e))

-- k milliseconds in seconds: k / 1000, rounded
seconds-at : (x : Float) (k : ℕ) → HasValue x false k 1 → div binary64 x (of_bits binary64 0x408F_4000_0000_0000) ≡ round binary64 false k 1000
unfolding div of_bits
seconds-at nan k v = absurd v
seconds-at (inf s) k v = absurd v
seconds-at (fin true m e) k v = absurd (true≢false v.0)
seconds-at (fin false m e) k v =
    round_same binary64 false (m * up e * 1) (1000 * down e) k 1000 (mul-pos (lit< tt) (down_pos e)) (lit< tt)
    (ap (λ (a : ℕ). a * 1000) v.1 ∙ simp (mul_assoc, mul_comm))

-- a k above 0 that a float counts exactly gives a positive number of seconds
pub seconds-positive : (k : ℕ) → 0 < k → k ≤ 2 ^ 53 → T (positive (seconds_of (pos k)))
unfolding round
seconds-positive k l h =
    rw (seconds-at (of_int binary64 (pos k)) k (count-exact k h))
    (between (round binary64 false 1 1000) (round binary64 false k 1000) (round binary64 false (2 ^ 53) 1000) tt tt
    (round_mono binary64 1 1000 k 1000 (lit< tt) (lit< tt) (omega arith))
    (round_mono binary64 k 1000 (2 ^ 53) 1000 (lit< tt) (lit< tt) (omega arith)))
