-- The grid as a reader expects it, and its parts.
-- Assumes nothing.
use Prim.Native.Nat.{ℕ, zero, suc, ◌+◌, ◌-◌, ◌*◌, ◌/◌, ◌≤◌, ◌<◌}
use native.Mathlib.Omega.{arith}
use native.Mathlib.Nat.{zero-add, suc-add, add-zero, add-suc, mul-div_cancel, sub-zero, zero-sub, suc-sub-suc, zero-lt-suc, le-div_iff_mul-le, div-lt_iff_lt-mul, le_of_mul-le-mul_right, lt_of_mul-lt-mul_right}
use mathlib.Core.Path.{◌≡◌, refl, sym, ap, ap₂, ◌∙◌}
use mathlib.Core.Bool.{true, false}
use mathlib.Core.List.{List, ◌∷◌, ◌++◌}
use borrow.Author.Tests.{le-leb, lt-leb, lt-ltb, le-ltb, leb-true}
use lib.Dec.{ltb, leb}
use lib.IntN.{ℤ, pos, negsuc, nat_abs, ◌+ℤ◌, ◌-ℤ◌, ◌*ℤ◌, +ℤ_assoc, +ℤ_comm, +ℤ_idr, suc_ℤ-*ℤ, zero-*ℤ}
use lib.ListN.{length, get_or, take, drop}
use lib.Signed.{le_z}
use Rattle.times.specs.Milli.{time_limit, Within}
use Rattle.times.specs.Grid.{Spans, grid_size, time_at, grid_from, grid}
use Rattle.times.specs.Later.{Rising}
use Rattle.times.proofs.Milli.{within-between}
use Rattle.times.proofs.Order.{same-leb, lt_not_le, offset, offset-end, le-offset, le-after}

-- ---- the times, however many

pub time-zero : (s st : ℤ) → time_at s st 0 ≡ s
unfolding time_at
time-zero s st = rw (zero-*ℤ st) (+ℤ_idr s)

pub time-suc : (s st : ℤ) (k : ℕ) → time_at s st (suc k) ≡ time_at s st k +ℤ st
unfolding time_at
time-suc s st k = rw (suc_ℤ-*ℤ (pos k) st) (sym (+ℤ_assoc s (pos k *ℤ st) st))

pub time-next : (s st : ℤ) (k : ℕ) → time_at (s +ℤ st) st k ≡ time_at s st (suc k)
unfolding time_at
time-next s st k = rw (suc_ℤ-*ℤ (pos k) st, +ℤ_comm (pos k *ℤ st) st) (+ℤ_assoc s st (pos k *ℤ st))

pub grid-length : (s st : ℤ) (n : ℕ) → length (grid_from s st n) ≡ n
unfolding grid_from
grid-length s st zero = refl
grid-length s st (suc n) = ap suc (grid-length (s +ℤ st) st n)

pub grid-at : (s st : ℤ) (n k : ℕ) → k < n → get_or (grid_from s st n) k (pos 0) ≡ time_at s st k
unfolding grid_from
grid-at s st zero k h = absurd (omega arith)
grid-at s st (suc n) zero h = sym (time-zero s st)
grid-at s st (suc n) (suc k) h = grid-at (s +ℤ st) st n k (omega arith) ∙ time-next s st k

pub time-add : (s st : ℤ) (a r : ℕ) → time_at (time_at s st a) st r ≡ time_at s st (a + r)
time-add s st a zero = rw (add-zero a) (time-zero (time_at s st a) st)
time-add s st a (suc r) = rw (add-suc a r) (time-suc (time_at s st a) st r ∙ ap (λ (z : ℤ). z +ℤ st) (time-add s st a r) ∙ sym (time-suc s st (a + r)))

pub grid-append : (s st : ℤ) (n m : ℕ) → grid_from s st (n + m) ≡ grid_from s st n ++ grid_from (time_at s st n) st m
unfolding grid_from
grid-append s st zero m = rw (zero-add m, time-zero s st)
grid-append s st (suc n) m = rw (suc-add n m, grid-append (s +ℤ st) st n m, time-next s st n)

pub grid-drop : (s st : ℤ) (n k : ℕ) → drop k (grid_from s st n) ≡ grid_from (time_at s st k) st (n - k)
unfolding grid_from
grid-drop s st n zero = rw (time-zero s st, sub-zero n)
grid-drop s st zero (suc k) = rw (zero-sub (suc k))
grid-drop s st (suc n) (suc k) = rw (suc-sub-suc n k) (grid-drop (s +ℤ st) st n k ∙ rw (time-next s st k))

pub grid-take : (s st : ℤ) (n k : ℕ) → k ≤ n → take k (grid_from s st n) ≡ grid_from s st k
unfolding grid_from
grid-take s st n zero h = refl
grid-take s st zero (suc k) h = absurd (omega arith)
grid-take s st (suc n) (suc k) h = ap (λ (l : List ℤ). s ∷ l) (grid-take (s +ℤ st) st n k (omega arith))

-- ---- in the limits of rows 6 and 7

pub step-some : (st : ℤ) → le_z (pos 1) st ≡ true → 0 < nat_abs st
step-some (pos d) h = leb-true 1 d h
step-some (negsuc d) h = zero-lt-suc d

time-is : (s st : ℤ) (k : ℕ) → le_z (pos 1) st ≡ true → time_at s st k ≡ s +ℤ pos (k * nat_abs st)
unfolding time_at
time-is s (pos d) k h = refl
time-is s (negsuc d) k h = cc

module _ {s e st : ℤ} (g : Spans s e st) where
  some : 0 < nat_abs st
  some = step-some st g.step_positive

  -- an index is one of the grid exactly when its time is not past end
  pub grid-test : (k : ℕ) → le_z (time_at s st k) e ≡ ltb k (grid_size s e st)
  unfolding grid_size
  grid-test k =
      let far = nat_abs (e -ℤ s) in
      let each = nat_abs st in
      ap₂ le_z (time-is s st k g.step_positive) (offset-end s e g.ordered)
      ∙ le-offset s (k * each) far
      ∙ same-leb (k * each) far (suc k) (far / each + 1)
      (λ h. omega (arith, (le-div_iff_mul-le {k = each} {x = k} {y = far} some).1 h))
      (λ h. omega (arith, (div-lt_iff_lt-mul {k = each} {x = far} {y = k} some).1 h))

  -- no output time is before start
  pub grid-from-start : (k : ℕ) → le_z s (time_at s st k) ≡ true
  grid-from-start k = rw (time-is s st k g.step_positive) (le-after s (k * nat_abs st))

  -- nor past end
  pub grid-to-end : (k : ℕ) → k < grid_size s e st → le_z (time_at s st k) e ≡ true
  grid-to-end k h = grid-test k ∙ lt-ltb k (grid_size s e st) h

  -- the next one would be
  pub grid-past-end : le_z (time_at s st (grid_size s e st)) e ≡ false
  grid-past-end = grid-test (grid_size s e st) ∙ le-ltb (grid_size s e st) (grid_size s e st) (omega arith)

  -- so it is within the limit
  pub time_within : (k : ℕ) → k < grid_size s e st → Within time_limit (time_at s st k)
  time_within k h = within-between g.start_within g.end_within (grid-from-start k) (grid-to-end k h)

  -- the times' order is that of the indexes
  pub time-order : (j k : ℕ) → le_z (time_at s st j) (time_at s st k) ≡ leb j k
  time-order j k =
      ap₂ le_z (time-is s st j g.step_positive) (time-is s st k g.step_positive)
      ∙ le-offset s (j * nat_abs st) (k * nat_abs st)
      ∙ same-leb (j * nat_abs st) (k * nat_abs st) j k (λ h. le_of_mul-le-mul_right h some) (λ h. lt_of_mul-lt-mul_right (nat_abs st) h)

  pub grid-rising : Rising (grid s e st)
  grid-rising =
      record {
        next = λ i h.
            let l : suc i < grid_size s e st = rw (grid-length s st (grid_size s e st)) at h in
            rw (
              grid-at s st (grid_size s e st) i (omega arith),
              grid-at s st (grid_size s e st) (suc i) l,
              lt_not_le (time_at s st i) (time_at s st (suc i)),
              time-order (suc i) i,
              lt-leb (suc i) i (omega arith),
            );
      }

  -- a stretch of the grid is in the same limits
  pub spans-cut : (a b : ℕ) → a ≤ b → b < grid_size s e st → Spans (time_at s st a) (time_at s st b) st
  spans-cut a b h k =
      record {
        start_within = time_within a (omega arith);
        end_within = time_within b k;
        ordered = time-order a b ∙ le-leb a b h;
        step_positive = g.step_positive;
        step_within = g.step_within;
      }

-- from a time of the grid to one r steps on there are r + 1
pub size-of-steps : (s st : ℤ) (r : ℕ) → le_z (pos 1) st ≡ true → grid_size s (time_at s st r) st ≡ r + 1
unfolding grid_size
size-of-steps s st r h =
    rw (time-is s st r h, offset s (pos (r * nat_abs st)), mul-div_cancel r {n = nat_abs st} (step-some st h))

-- the grid from index a to index b is that part of the grid
pub grid-cut : {s e st : ℤ} → Spans s e st → (a b : ℕ) → a ≤ b → b < grid_size s e st → grid (time_at s st a) (time_at s st b) st ≡ take (b - a + 1) (drop a (grid s e st))
grid-cut {s} {e} {st} g a b h k =
    let w = time_at s st a in
    let last : time_at w st (b - a) ≡ time_at s st b = time-add s st a (b - a) ∙ ap (time_at s st) (omega arith) in
    let size : grid_size w (time_at s st b) st ≡ b - a + 1 = rw last at (size-of-steps w st (b - a) g.step_positive) in
    rw (size, grid-drop s st (grid_size s e st) a) (sym (grid-take w st (grid_size s e st - a) (b - a + 1) (omega arith)))
