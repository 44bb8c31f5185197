-- Distances between times in order, and the nearest of times that do not fall: it stands beside the first index after the asked time.
-- Assumes nothing.
use Prim.Native.Nat.{ℕ, zero, suc, ◌+◌, ◌-◌, ◌≤◌, ◌<◌}
use mathlib.Core.Bool.{true, not, false≢true}
use mathlib.Core.List.{List}
use mathlib.Core.Path.{◌≡◌, refl, sym, ap, ap₂, ◌∙◌}
use native.Mathlib.Omega.{arith}
use borrow.Author.Tests.{le-leb, lt-ltb, le-ltb, leb-true, leb-false, ltb-true, ltb-false}
use lib.Dec.{leb, ltb}
use lib.IntN.{ℤ, pos, negsuc, neg_ℤ, nat_abs, pred_ℤ, ◌+ℤ◌, ◌-ℤ◌, +ℤ_assoc, +ℤ_comm, +ℤ_idr, neg_ℤ-neg_ℤ, neg_ℤ-+ℤ, -ℤ_one}
use lib.ListN.{length, get_or}
use lib.Signed.{le_z, lt_z}
use Rattle.ieee.proofs.Tests.{by-test}
use Rattle.times.specs.Later.{NotFalling, first_after}
use Rattle.times.proofs.Later.{first-at, first_below, first-from, first-le, first-left, not-falling-le}
use Rattle.times.proofs.Milli.{nat_abs-neg}
use Rattle.times.proofs.Order.{le_refl, lt-le, lt_not_le, not_below, offset, offset-end, offset-of}
use Rattle.crossings.specs.Nearest.{Nearest, distance}

turned : (a b : ℤ) → distance a b ≡ distance b a
turned a b =
    sym (nat_abs-neg (b -ℤ a)) ∙ ap nat_abs (neg_ℤ-+ℤ b (neg_ℤ a) ∙ ap (λ (z : ℤ). neg_ℤ b +ℤ z) (neg_ℤ-neg_ℤ a) ∙ +ℤ_comm (neg_ℤ b) a)

-- one after the other
joined : (a b c : ℤ) → le_z a b ≡ true → le_z b c ≡ true → distance a c ≡ distance a b + distance b c
joined a b c h k =
    let m = distance a b in
    let n = distance b c in
    let end : c ≡ a +ℤ pos (m + n) = offset-end b c k ∙ ap (λ (z : ℤ). z +ℤ pos n) (offset-end a b h) ∙ +ℤ_assoc a (pos m) (pos n) in
    ap (λ (z : ℤ). nat_abs (z -ℤ a)) end ∙ ap nat_abs (offset a (pos (m + n)))

-- to the other side: from c back to a
back : (a b c : ℤ) → le_z a b ≡ true → le_z b c ≡ true → distance c a ≡ distance a b + distance c b
back a b c h k = turned c a ∙ joined a b c h k ∙ ap (λ (n : ℕ). distance a b + n) (turned b c)

apart : (a b : ℤ) → lt_z a b ≡ true → 0 < distance a b
apart a b h =
    by-test (ltb 0 (distance a b)) (λ e. ltb-true 0 (distance a b) e)
    (λ e.
    let none : distance a b ≡ 0 = omega (arith, ltb-false 0 (distance a b) e) in
    let same : b ≡ a = offset-end a b (lt-le a b h) ∙ ap (λ (n : ℕ). a +ℤ pos n) none ∙ +ℤ_idr a in
    absurd (false≢true (sym (ap not (le_refl a)) ∙ sym (lt_not_le a a) ∙ ap (lt_z a) (sym same) ∙ h)))

below_suc : (m n : ℕ) → leb m n ≡ ltb m (suc n)
below_suc m n = by-test (leb m n) (λ e. e ∙ sym (lt-ltb m (suc n) (omega (arith, leb-true m n e)))) (λ e. e ∙ sym (le-ltb m (suc n) (omega (arith, leb-false m n e))))

suc-below : (m n : ℕ) → leb (suc m) n ≡ ltb m n
suc-below m n = by-test (leb (suc m) n) (λ e. e ∙ sym (lt-ltb m n (omega (arith, leb-true (suc m) n e)))) (λ e. e ∙ sym (le-ltb m n (omega (arith, leb-false (suc m) n e))))

-- the code's test of which side is nearer
pub nearer-test : (b t u : ℤ) → le_z b t ≡ true → le_z t u ≡ true → lt_z (u -ℤ t) (t -ℤ b) ≡ ltb (distance t u) (distance t b)
nearer-test b t u h l = ap₂ lt_z (offset-of t u l) (offset-of b t h) ∙ ap (ltb (distance t u)) (turned b t)

-- at most the number before b
before : (x b : ℤ) → le_z x (b -ℤ pos 1) ≡ lt_z x b
before x b = ap (le_z x) (-ℤ_one b) ∙ cases x b
  where
    cases : (x b : ℤ) → le_z x (pred_ℤ b) ≡ lt_z x b
    cases (pos m) (pos zero) = sym (le-ltb m 0 (omega arith))
    cases (pos m) (pos (suc n)) = below_suc m n
    cases (pos m) (negsuc n) = refl
    cases (negsuc m) (pos zero) = le-leb 0 m (omega arith)
    cases (negsuc m) (pos (suc n)) = refl
    cases (negsuc m) (negsuc n) = suc-below n m

module _ {ts : List ℤ} (n : NotFalling ts) (t : ℤ) where
  abbrev at : ℕ → ℤ
  at i = get_or ts i (pos 0)

  abbrev k : ℕ
  k = first_after ts t

  pub after : (j : ℕ) → k ≤ j → j < length ts → le_z t (at j) ≡ true
  after j h l = lt-le t (at j) (lt_not_le t (at j) ∙ ap not (first-from n t j h l))

  -- from the first index after t on, distances do not fall
  later : (j : ℕ) → k ≤ j → j < length ts → distance t (at k) ≤ distance t (at j)
  later j h l = omega (arith, joined t (at k) (at j) (after k (omega arith) (omega arith)) (not-falling-le n k j h l))

  -- and up to the one before it, they do not rise
  earlier : (j : ℕ) → j < k → k ≤ length ts → distance t (at j) ≡ distance (at j) (at (k - 1)) + distance t (at (k - 1))
  earlier j h l = back (at j) (at (k - 1)) t (not-falling-le n j (k - 1) (omega arith) (omega arith)) (first_below ts t (k - 1) (omega arith))

  -- all times are after t
  pub first-nearest : k ≡ 0 → 0 < length ts → Nearest t ts 0
  first-nearest e some = record { within = some; closest = λ j h. rw e at (later j (omega arith) h); lowest = λ j h. absurd (omega arith) }

  -- the first one after t is nearer than the one before it
  pub next-nearest : 0 < k → k < length ts → distance t (at k) < distance t (at (k - 1)) → Nearest t ts k
  next-nearest some l nearer =
      let lower : (j : ℕ) → j < k → distance t (at k) < distance t (at j) = λ j h. omega (arith, nearer, earlier j h (omega arith)) in
      record { within = l; closest = λ j h. by-test (ltb j k) (λ e. omega (arith, lower j (ltb-true j k e))) (λ e. later j (ltb-false j k e) h); lowest = lower }

  -- it is not, or there is none: the first of the times that equal the one before it
  module _ (some : 0 < k) (nearer : k < length ts → distance t (at (k - 1)) ≤ distance t (at k)) where
    abbrev b : ℤ
    b = at (k - 1)

    abbrev r : ℕ
    r = first_after ts (b -ℤ pos 1)

    r-before : r ≤ k - 1
    r-before = first-left n (b -ℤ pos 1) (k - 1) (omega (arith, first-le ts t)) (before b b ∙ lt_not_le b b ∙ ap not (le_refl b))

    r-within : r < length ts
    r-within = omega (arith, r-before, first-le ts t)

    reached : distance t (at r) ≤ distance t b
    reached =
        let low : le_z b (at r) ≡ true = not_below (at r) b (sym (before (at r) b) ∙ first-at ts (b -ℤ pos 1) r-within) in
        let high : le_z (at r) t ≡ true = first_below ts t r (omega (arith, r-before)) in
        omega (arith, back b (at r) t low high)

    pub last-nearest : Nearest t ts r
    last-nearest =
        record {
          within = r-within;
          closest = λ j h.
              by-test (ltb j k) (λ e. omega (arith, reached, earlier j (ltb-true j k e) (first-le ts t)))
              (λ e. omega (arith, reached, ltb-false j k e, nearer (omega (arith, ltb-false j k e)), later j (ltb-false j k e) h));
          lowest = λ j h. omega (arith, reached, earlier j (omega (arith, r-before)) (first-le ts t), apart (at j) b (sym (before (at j) b) ∙ first_below ts (b -ℤ pos 1) j h));
        }
