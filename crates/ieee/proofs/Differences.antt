-- The sign of a difference: it is below zero only where the first value is below the second. And +0.0 added to a value does not move it in the order.
-- Assumes nothing.
use Rattle.std.proofs.Common.{◌≡◌, ℕ, zero, suc, ◌+◌, ◌-◌, ◌*◌, ◌^◌, ◌<◌, Bool, true, false, cond, not, ◌&&◌, T, ltb, ℤ, pos, sym, refl, ◌∙◌, true≢false, mul-pos, arith, ltb-false, le-ltb, eqb-true}
use lib.Ieee.{Float, nan, inf, fin, Format, binary64, below, down, emax, eq, fits, is_nan, low, lt, neg, odd, prec, round, sub, sum, add, units, up}
use lib.Ieee.Fits.{down_pos}
use Rattle.ieee.specs.Value.{negative}
use Rattle.ieee.proofs.Order.{eq-rank}
use Rattle.ieee.proofs.Rank.{rank}
use Rattle.ieee.proofs.Tests.{by-test}
use Rattle.ieee.proofs.Unrounded.{plus-zero, round-zero, zero_of}

-- ---- a fraction without a sign does not round to below zero

unsigned-not-below : (m : ℕ) (e : ℤ) → lt (fin false m e) (zero_of false) ≡ false
unfolding lt
unsigned-not-below m e = le-ltb (m * up e * 1) (0 * down e) (omega arith)

odd-not-below : (d q k l : ℕ) → lt (odd d false q k l) (zero_of false) ≡ false
unfolding odd
odd-not-below d zero k l = unsigned-not-below 0 (pos 0)
odd-not-below d (suc q) k l = unsigned-not-below _ _

units-not-below : (f : Format) (q k : ℕ) → lt (units f false q k) (zero_of false) ≡ false
unfolding units lt
units-not-below f q k = by-test (ltb (q * 2 ^ k) (2 ^ (low f + suc (emax f)))) (λ e. rw e (odd-not-below (suc (prec f)) q k (low f))) (λ e. rw e)

round-not-below : (f : Format) (a c : ℕ) → lt (round f false a c) (zero_of false) ≡ false
unfolding round
round-not-below f a c = units-not-below f _ _

-- ---- differences

-- ±a / c − ±b / c
sum-not-below : (s : Bool) (a : ℕ) (t : Bool) (b c : ℕ) → 0 < c → below s a t b ≡ false → lt (sum binary64 s a (not t) b c) (zero_of false) ≡ false
unfolding sum lt
sum-not-below false a false b c C h = rw h (round-not-below binary64 (a - b) c)
sum-not-below false a true b c C h = round-not-below binary64 (a + b) c
sum-not-below true a false b c C h = rw (round-zero true (a + b) c C (omega (arith, ltb-false 0 (a + b) h)))
sum-not-below true a true b c C h = by-test (ltb a b) (λ e. rw e (round-not-below binary64 (b - a) c)) (λ e. rw (e, h) (round-not-below binary64 (a - b) c))

pub difference-not-below : (x y : Float) → lt x y ≡ false → lt (sub binary64 x y) (zero_of false) ≡ false
unfolding lt sub add neg
difference-not-below nan y h = refl
difference-not-below (inf s) nan h = refl
difference-not-below (inf true) (inf true) h = refl
difference-not-below (inf true) (inf false) h = absurd (true≢false h)
difference-not-below (inf false) (inf true) h = refl
difference-not-below (inf false) (inf false) h = refl
difference-not-below (inf s) (fin t n d) h = h
difference-not-below (fin s m e) nan h = refl
difference-not-below (fin s m e) (inf true) h = refl
difference-not-below (fin s m e) (inf false) h = absurd (true≢false h)
difference-not-below (fin s m e) (fin t n d) h = sum-not-below s (m * up e * down d) t (n * up d * down e) (down e * down d) (mul-pos (down_pos e) (down_pos d)) h

-- ---- a sum with +0.0

-- −0.0 becomes +0.0, which is as high; all else stays
pub plus-zero-rank : (x : Float) → T (fits binary64 x) → is_nan x ≡ false → rank (add binary64 x (zero_of false)) ≡ rank x
plus-zero-rank x f h = rw (plus-zero x false f) (level (eq x (zero_of false)) refl (negative x))
  where
    level : (b : Bool) → eq x (zero_of false) ≡ b → (n : Bool) → rank (cond (b && (n && true)) (zero_of false) x) ≡ rank x
    level false e n = refl
    level true e false = refl
    level true e true = sym (eqb-true (rank x) (rank (zero_of false)) (sym (eq-rank x (zero_of false) f (unfold fits in tt) h (unfold is_nan in refl)) ∙ e))
