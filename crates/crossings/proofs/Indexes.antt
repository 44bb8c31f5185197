-- The crossings of a limit, from an index on, and as a reader expects them: their indexes rise, and an index is listed exactly where the two sides differ.
-- Assumes nothing.
use Prim.Native.Nat.{ℕ, zero, suc, ◌+◌, ◌-◌, ◌≤◌, ◌<◌}
use mathlib.Core.Path.{◌≡◌, refl, sym, ap, ◌∙◌}
use mathlib.Core.Bool.{Bool, true, false, ◌&&◌}
use mathlib.Core.List.{List, [], ◌∷◌}
use native.Mathlib.Omega.{arith}
use borrow.Author.Tests.{eqb-false, eqb-true, le-leb, le-ltb, leb-false, leb-true, lt-leb, lt-ltb, ltb-false, ltb-true}
use lib.Dec.{eqb, leb, ltb}
use lib.Ieee.{Float}
use lib.ListN.{length, get_or}
use Rattle.std.specs.List.{filter, range_with_len}
use Rattle.ieee.proofs.Tests.{by-test}
use Rattle.crossings.specs.Crossings.{Rises, crosses, crossing_indexes, listed}

-- ---- a turn of a loop over the indexes

module _ (limit : Float) (vs : List ℕ) where
  -- the crossings from index i on
  abbrev pub left : ℕ → List ℕ
  left i = filter (crosses limit vs) (range_with_len i (length vs - i))

  pub all_left : crossing_indexes limit vs ≡ left 1
  unfolding crossing_indexes
  all_left = refl

  next : (i : ℕ) → i < length vs → range_with_len i (length vs - i) ≡ i ∷ range_with_len (i + 1) (length vs - (i + 1))
  next i h = let e : length vs - i ≡ suc (length vs - (i + 1)) = omega arith in rw e

  pub left-crossing : (i : ℕ) → i < length vs → crosses limit vs i ≡ true → left i ≡ i ∷ left (i + 1)
  left-crossing i h e = rw (next i h, e)

  pub left_other : (i : ℕ) → i < length vs → crosses limit vs i ≡ false → left i ≡ left (i + 1)
  left_other i h e = rw (next i h, e)

  pub left-none : (i : ℕ) → length vs ≤ i → left i ≡ []
  left-none i h = let e : length vs - i ≡ 0 = omega arith in rw e

-- ---- the indexes rise

module _ (p : ℕ → Bool) where
  -- the list, from its first index on
  abbrev picked : ℕ → ℕ → List ℕ
  picked i n = filter p (range_with_len i n)

  above : (i n k : ℕ) → k < length (picked i n) → i ≤ get_or (picked i n) k 0
  above i zero k h = absurd (omega arith)
  above i (suc n) k h =
      by-test (p i) (λ e. rw e (first (above (i + 1) n) k (rw e at h))) (λ e. rw e (omega (arith, above (i + 1) n k (rw e at h))))
    where
      first : ((k : ℕ) → k < length (picked (i + 1) n) → i + 1 ≤ get_or (picked (i + 1) n) k 0) → (k : ℕ) → k < length (i ∷ picked (i + 1) n) → i ≤ get_or (i ∷ picked (i + 1) n) k 0
      first others zero l = omega arith
      first others (suc k) l = omega (arith, others k (omega arith))

  rise : (i n k : ℕ) → suc k < length (picked i n) → get_or (picked i n) k 0 < get_or (picked i n) (suc k) 0
  rise i zero k h = absurd (omega arith)
  rise i (suc n) k h = by-test (p i) (λ e. rw e (first (rise (i + 1) n) k (rw e at h))) (λ e. rw e (rise (i + 1) n k (rw e at h)))
    where
      first : ((k : ℕ) → suc k < length (picked (i + 1) n) → get_or (picked (i + 1) n) k 0 < get_or (picked (i + 1) n) (suc k) 0) → (k : ℕ) → suc k < length (i ∷ picked (i + 1) n) → get_or (i ∷ picked (i + 1) n) k 0 < get_or (picked (i + 1) n) k 0
      first others zero l = omega (arith, above (i + 1) n 0 (omega arith))
      first others (suc k) l = others k (omega arith)

pub crossings-rise : (limit : Float) (vs : List ℕ) → Rises (crossing_indexes limit vs)
unfolding crossing_indexes
crossings-rise limit vs = record { next = λ k h. rise (crosses limit vs) 1 (length vs - 1) k h }

-- ---- and an index is listed exactly where it is that of a reading, not the first one, and the two sides differ

and-false : (a : Bool) → false ≡ (a && false)
and-false true = refl
and-false false = refl

listed-filter : (p : ℕ → Bool) (i : ℕ) (js : List ℕ) → listed i (filter p js) ≡ (listed i js && p i)
unfolding listed
listed-filter p i [] = refl
listed-filter p i (j ∷ js) =
    by-test (eqb i j)
    (λ e.
    let same : p i ≡ p j = ap p (eqb-true i j e) in
    by-test (p j) (λ g. rw (g, e, same, g)) (λ g. rw (g, e, listed-filter p i js, same, g) (sym (and-false (listed i js)))))
    (λ e. by-test (p j) (λ g. rw (g, e) (listed-filter p i js)) (λ g. rw (g, e) (listed-filter p i js)))

listed-up : (i j n : ℕ) → listed i (range_with_len j n) ≡ (leb j i && ltb i (j + n))
unfolding listed
listed-up i j zero = by-test (leb j i) (λ e. rw (e, le-ltb i (j + 0) (omega (arith, leb-true j i e)))) (λ e. rw e)
listed-up i j (suc n) =
    rw (listed-up i (j + 1) n)
    (by-test (eqb i j)
    (λ e. let same = eqb-true i j e in rw (e, le-leb j i (omega arith), lt-ltb i (j + suc n) (omega arith)))
    (λ e.
    let other : j ≤ i → j + 1 ≤ i = λ h. by-test (ltb j i) (λ g. omega (arith, ltb-true j i g)) (λ g. absurd (eqb-false i j e (omega (arith, h, ltb-false j i g)))) in
    by-test (leb j i)
    (λ g. let next : j + 1 + n ≡ j + suc n = omega arith in rw (e, g, le-leb (j + 1) i (other (leb-true j i g)), next))
    (λ g. rw (e, g, lt-leb (j + 1) i (omega (arith, leb-false j i g))))))

-- the indexes from 1 on are those that have one before
from_one : (i n : ℕ) → (leb 1 i && ltb i (1 + (n - 1))) ≡ (ltb 0 i && ltb i n)
from_one i n =
    by-test (ltb 0 i)
    (λ e.
    let some = ltb-true 0 i e in
    by-test (ltb i n)
    (λ g. rw (e, g, lt-ltb i (1 + (n - 1)) (omega (arith, ltb-true i n g))))
    (λ g. rw (e, g, le-ltb i (1 + (n - 1)) (omega (arith, some, ltb-false i n g)))))
    (λ e. rw e)

pub crossing-listed : (limit : Float) (vs : List ℕ) (i : ℕ) → listed i (crossing_indexes limit vs) ≡ (ltb 0 i && ltb i (length vs) && crosses limit vs i)
unfolding crossing_indexes
crossing-listed limit vs i =
    listed-filter (crosses limit vs) i (range_with_len 1 (length vs - 1))
    ∙ ap (λ (b : Bool). b && crosses limit vs i) (listed-up i 1 (length vs - 1) ∙ from_one i (length vs))
