-- Where the later times begin, by index and by time.
-- Assumes nothing.
use Prim.Native.Nat.{ℕ, zero, suc, ◌+◌, ◌-◌, ◌≤◌, ◌<◌, suc-le-suc, zero-le}
use native.Mathlib.Omega.{arith}
use mathlib.Core.Path.{◌≡◌, refl, sym, ap, ◌∙◌}
use mathlib.Core.Bool.{true, false, cond, ◌&&◌}
use mathlib.Core.List.{List, [], ◌∷◌, map}
use lib.IntN.{ℤ, pos}
use lib.ListN.{length, get_or, take, drop}
use lib.Signed.{le_z, lt_z}
use lib.Dec.{leb, ltb}
use Rattle.std.specs.List.{position, position_or_len}
use Rattle.std.specs.Option.{unwrap_or}
use Rattle.std.proofs.Common.{Some, None}
use Rattle.std.proofs.lemmas.List.{get_or-take, length-take}
use borrow.Author.Tests.{leb-true, leb-false, ltb-true, ltb-false}
use Rattle.times.specs.Leading.{leading}
use Rattle.times.specs.Later.{NotFalling, first_after}
use Rattle.times.specs.Readings.{filter}
use Rattle.times.proofs.Leading.{leading_le, leading-passes, leading-fails, leading-only}
use Rattle.times.proofs.Readings.{filter-and, map-drop}
use Rattle.ieee.proofs.Tests.{by-test}
use Rattle.times.proofs.Order.{le_trans, lt_not_le, le_refl, after-trans}

-- ---- order in a list

pub not-falling-tail : {u : ℤ} {ts : List ℤ} → NotFalling (u ∷ ts) → NotFalling ts
not-falling-tail n = record { next = λ i h. n.next (suc i) (omega arith) }

pub not-falling-drop : (k : ℕ) {ts : List ℤ} → NotFalling ts → NotFalling (drop k ts)
not-falling-drop zero n = n
not-falling-drop (suc k) {ts = []} n = n
not-falling-drop (suc k) {ts = u ∷ ts} n = not-falling-drop k (not-falling-tail n)

pub not-falling-take : (k : ℕ) {ts : List ℤ} → NotFalling ts → NotFalling (take k ts)
not-falling-take k {ts} n = record {
  next = λ i h.
      let least = length-take k ts in
      rw (get_or-take k ts i (pos 0) (omega arith), get_or-take k ts (suc i) (pos 0) (omega arith)) (n.next i (omega arith));
}

-- no later index has a time below
pub not-falling-le : {ts : List ℤ} → NotFalling ts → (i j : ℕ) → i ≤ j → j < length ts → le_z (get_or ts i (pos 0)) (get_or ts j (pos 0)) ≡ true
not-falling-le {ts} n i zero h k = let e : i ≡ zero = omega arith in rw e (le_refl (get_or ts zero (pos 0)))
not-falling-le {ts} n i (suc j) h k =
    by-test (leb i j) (λ e. le_trans (get_or ts i (pos 0)) (get_or ts j (pos 0)) (get_or ts (suc j) (pos 0)) (not-falling-le n i j (leb-true i j e) (omega arith)) (n.next j k))
    (λ e. let same : i ≡ suc j = omega (arith, leb-false i j e) in rw same (le_refl (get_or ts (suc j) (pos 0))))

-- ---- by index

pub first-le : (ts : List ℤ) (t : ℤ) → first_after ts t ≤ length ts
unfolding first_after
first-le ts t = leading_le (λ u. le_z u t) ts

-- the times before it are at most t
pub first_below : (ts : List ℤ) (t : ℤ) (i : ℕ) → i < first_after ts t → le_z (get_or ts i (pos 0)) t ≡ true
unfolding first_after
first_below ts t i h = leading-passes (λ u. le_z u t) (pos 0) ts i h

-- the time at it, if any, is after t
pub first-at : (ts : List ℤ) (t : ℤ) → first_after ts t < length ts → le_z (get_or ts (first_after ts t) (pos 0)) t ≡ false
unfolding first_after
first-at ts t h = leading-fails (λ u. le_z u t) (pos 0) ts h

-- and no other index is so
pub first-unique : (ts : List ℤ) (t : ℤ) (n : ℕ) → n ≤ length ts → ((i : ℕ) → i < n → le_z (get_or ts i (pos 0)) t ≡ true) → (n < length ts → le_z (get_or ts n (pos 0)) t ≡ false) → n ≡ first_after ts t
unfolding first_after
first-unique ts t n h below after = leading-only (λ u. le_z u t) (pos 0) ts n h below after

-- where times do not fall, every time from it on is after t
pub first-from : {ts : List ℤ} → NotFalling ts → (t : ℤ) (i : ℕ) → first_after ts t ≤ i → i < length ts → le_z (get_or ts i (pos 0)) t ≡ false
first-from {ts} n t i h k =
    after-trans (get_or ts (first_after ts t) (pos 0)) (get_or ts i (pos 0)) t (not-falling-le n (first_after ts t) i h k) (first-at ts t (omega arith))

none_after : {u : ℤ} {ts : List ℤ} (t : ℤ) → NotFalling (u ∷ ts) → le_z u t ≡ false → first_after ts t ≡ 0
unfolding first_after leading
none_after {u} {ts = []} t n h = refl
none_after {u} {ts = v ∷ ts} t n h = rw (after-trans u v t (n.next zero (omega arith)) h)

-- the test at an index says on which side of it the index lies
pub first-test : {ts : List ℤ} → NotFalling ts → (t : ℤ) (i : ℕ) → i < length ts → le_z (get_or ts i (pos 0)) t ≡ ltb i (first_after ts t)
first-test {ts} n t i h =
    by-test (ltb i (first_after ts t)) (λ e. rw e (first_below ts t i (ltb-true i (first_after ts t) e)))
    (λ e. rw e (first-from n t i (ltb-false i (first_after ts t) e) h))

-- as an order of indexes
pub first_taken : {ts : List ℤ} → NotFalling ts → (t : ℤ) (i : ℕ) → i < length ts → le_z (get_or ts i (pos 0)) t ≡ true → i < first_after ts t
first_taken n t i h e = ltb-true i _ (sym (first-test n t i h) ∙ e)

pub first-left : {ts : List ℤ} → NotFalling ts → (t : ℤ) (i : ℕ) → i < length ts → le_z (get_or ts i (pos 0)) t ≡ false → first_after ts t ≤ i
first-left n t i h e = ltb-false i _ (sym (first-test n t i h) ∙ e)

-- the first time after t stands there
position-after : (ts : List ℤ) (t : ℤ) → position_or_len (λ u. lt_z t u) ts ≡ first_after ts t
unfolding first_after leading
position-after [] t = refl
position-after (u ∷ ts) t = by-test (le_z u t) (λ e. rw (lt_not_le t u, e) (omega (arith, position-after ts t))) (λ e. rw (lt_not_le t u, e))

or-length : (m n : ℕ) → m ≤ n → unwrap_or (cond (ltb m n) (Some m) None) n ≡ m
or-length m n h = by-test (ltb m n) (λ e. rw e) (λ e. rw e (omega (arith, ltb-false m n e)))

pub first-position : (ts : List ℤ) (t : ℤ) → unwrap_or (position (λ u. lt_z t u) ts) (length ts) ≡ first_after ts t
first-position ts t =
    let is = position-after ts t in
    or-length _ (length ts) (omega (arith, is, first-le ts t)) ∙ is

-- in what is left of the times from index k on
pub first-drop : {ts : List ℤ} → NotFalling ts → (t : ℤ) (k : ℕ) → first_after (drop k ts) t ≡ first_after ts t - k
unfolding first_after leading
first-drop {ts} n t zero = omega arith
first-drop {ts = []} n t (suc k) = omega arith
first-drop {ts = u ∷ ts} n t (suc k) =
    by-test (le_z u t) (λ e. rw e (omega (arith, first-drop (not-falling-tail n) t k)))
    (λ e. rw e (omega (arith, first-drop (not-falling-tail n) t k, none_after t n e)))

-- in the first k times, where it is among them
pub first-take : (ts : List ℤ) (t : ℤ) (k : ℕ) → first_after ts t ≤ k → first_after (take k ts) t ≡ first_after ts t
unfolding first_after leading
first-take ts t zero h = omega arith
first-take [] t (suc k) h = refl
first-take (u ∷ ts) t (suc k) h =
    by-test (le_z u t) (λ e. rw e (ap suc (first-take ts t k (omega (arith, rw e at h))))) (λ e. rw e)

-- in the times from index i to index j, where it lies between
pub first-part : {ts : List ℤ} → NotFalling ts → (t : ℤ) (i j : ℕ) → i ≤ first_after ts t → first_after ts t ≤ j → i + first_after (take (j - i) (drop i ts)) t ≡ first_after ts t
first-part {ts} n t i j h k =
    let left = first-drop n t i in
    rw (first-take (drop i ts) t (j - i) (omega arith)) (omega arith)

-- a later time has no lower index
pub first-mono : (ts : List ℤ) (t u : ℤ) → le_z t u ≡ true → first_after ts t ≤ first_after ts u
unfolding first_after leading
first-mono [] t u h = zero-le
first-mono (v ∷ ts) t u h =
    by-test (le_z v t) (λ e. rw (e, le_trans v t u e h) (suc-le-suc (first-mono ts t u h))) (λ e. rw e zero-le)

-- ---- by time

module _ {A : Type 0} (time : A → ℤ) where
  no-earlier : (t : ℤ) (r : A) (rs : List A) → NotFalling (map time (r ∷ rs)) → le_z (time r) t ≡ false → filter (λ x. le_z (time x) t) rs ≡ []
  unfolding filter
  no-earlier t r [] n h = refl
  no-earlier t r (s ∷ rs) n h =
      let k : le_z (time s) t ≡ false = after-trans (time r) (time s) t (n.next zero (omega arith)) h in
      rw k (no-earlier t s rs (not-falling-tail n) k)

  all-later : (t : ℤ) (r : A) (rs : List A) → NotFalling (map time (r ∷ rs)) → le_z (time r) t ≡ false → filter (λ x. lt_z t (time x)) rs ≡ rs
  unfolding filter
  all-later t r [] n h = refl
  all-later t r (s ∷ rs) n h =
      let k : le_z (time s) t ≡ false = after-trans (time r) (time s) t (n.next zero (omega arith)) h in
      rw (lt_not_le t (time s), k) (ap (λ (l : List A). s ∷ l) (all-later t s rs (not-falling-tail n) k))

  until : (t : ℤ) (rs : List A) → NotFalling (map time rs) → filter (λ x. le_z (time x) t) rs ≡ take (first_after (map time rs) t) rs
  unfolding filter first_after leading
  until t [] n = refl
  until t (r ∷ rs) n =
      by-test (le_z (time r) t) (λ e. rw e (ap (λ (l : List A). r ∷ l) (until t rs (not-falling-tail n)))) (λ e. rw e (no-earlier t r rs n e))

  after : (t : ℤ) (rs : List A) → NotFalling (map time rs) → filter (λ x. lt_z t (time x)) rs ≡ drop (first_after (map time rs) t) rs
  unfolding filter first_after leading
  after t [] n = refl
  after t (r ∷ rs) n =
      by-test (le_z (time r) t) (λ e. rw (lt_not_le t (time r), e) (after t rs (not-falling-tail n)))
      (λ e. rw (lt_not_le t (time r), e) (ap (λ (l : List A). r ∷ l) (all-later t r rs n e)))

  -- of readings whose times are ts
  module _ (rs : List A) {ts : List ℤ} (same : map time rs ≡ ts) (n : NotFalling ts) where
    pub filter-until : (t : ℤ) → filter (λ x. le_z (time x) t) rs ≡ take (first_after ts t) rs
    filter-until t = rw (← same) (until t rs (rw (← same) at n))

    pub filter-after : (t : ℤ) → filter (λ x. lt_z t (time x)) rs ≡ drop (first_after ts t) rs
    filter-after t = rw (← same) (after t rs (rw (← same) at n))

    pub filter-between : (u t : ℤ) → filter (λ x. lt_z u (time x) && le_z (time x) t) rs ≡ take (first_after ts t - first_after ts u) (drop (first_after ts u) rs)
    filter-between u t =
        let k = first_after ts u in
        let rest : map time (drop k rs) ≡ drop k ts = rw (map-drop time k rs, same) in
        rw (filter-and (λ x. lt_z u (time x)) (λ x. le_z (time x) t), filter-after u, ← first-drop n t k, ← rest)
        (until t (drop k rs) (rw rest (not-falling-drop k n)))
