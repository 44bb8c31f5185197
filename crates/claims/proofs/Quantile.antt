-- Where the rank of a quantile is a whole number k, the quantile is the value at k in order (`whole-rank`), or NaN where the next is infinite
-- (`whole-rank-infinite`). So phi 0 gives the least (`least`), phi 1 the greatest (`greatest`), and the median of an odd number of values the one in the
-- middle (`middle`). Assumes nothing.
use mathlib.Core.Path.{◌≡◌, refl, sym, ap, ◌∙◌, subst}
use mathlib.Core.Bool.{Bool, true, false, not, ◌&&◌, ◌||◌, cond, and-false, true≢false}
use mathlib.Core.List.{List, [], ◌∷◌, Permᴰ}
use Prim.Native.Nat.{ℕ, zero, suc, ◌+◌, ◌-◌, ◌*◌, ◌^◌, ◌≤◌, ◌<◌, min}
use native.Mathlib.Nat.{mul-one}
use native.Mathlib.Omega.{arith}
use lib.Dec.{T, eqb, lit<}
use lib.IntN.{pos}
use lib.ListN.{length, get_or}
use lib.Ieee.{Float, nan, inf, fin, binary64, add, sub, mul, eq, fits, is_nan, lt, of_bits, of_int, to_unsigned}
use lib.Ieee.Scale.{finite}
use lib.Ieee.Fits.{mul-fits, nan-fits, of_int-fits}
use lib.Ieee.Bits.{of_bits-fits}
use lib.Ieee.Exact.{HasValue}
use borrow.Author.Tests.{eqb-true, le-ltb, ne_eqb}
use Rattle.ieee.proofs.Rank.{rank}
use Rattle.ieee.specs.Value.{floor_of, negative}
use Rattle.ieee.proofs.Exact.{count-exact, value_number}
use Rattle.ieee.proofs.Order.{eq-rank, lt-rank}
use Rattle.ieee.proofs.Patterns.{same-if-number}
use Rattle.ieee.proofs.Unrounded.{difference-of-equals, plus-zero, product, times-one, times_zero, zero-times}
use Rattle.order.specs.Order.{less_of}
use Rattle.quantile.specs.Quantile.{at_rank, between, median_of, quantile_of, quantile_sorted, rank_of}
use Rattle.order.specs.Sort.{All}
use Rattle.ieee.specs.Patterns.{floats}
use Rattle.sort.specs.Values.{kept}
use Rattle.order.specs.declared.Order.TheVariants.{Partial}
use Rattle.quantile.proofs.Exact.{Whole, whole}
use Rattle.sort.proofs.Kept.{all-kept, kept-numbers}
use Rattle.order.proofs.Keys.{Keyed, all-keyed, keyed-sorted}
use Rattle.order.proofs.Sorted.{InOrder, sorted-in-order, sorted-permutes}
use Rattle.order.proofs.Sorting.{all-at, all-sort}
use Rattle.claims.specs.Quantile.{Finite, Greatest, Least, Middle, WholeRank, before, nth, one, ordered, size, zero_of}

-- ---- two values at weight 0

weightless : (x next : Float) → T (fits binary64 x) → between (zero_of false) x next ≡ add binary64 x (mul binary64 next (zero_of false))
weightless x next f = opened ∙ rw full (ap (λ (y : Float). add binary64 y (mul binary64 next (zero_of false))) (times-one x f))
  where
    opened : between (zero_of false) x next ≡ add binary64 (mul binary64 x (sub binary64 one (zero_of false))) (mul binary64 next (zero_of false))
    opened = unfold between in refl

    full : sub binary64 one (zero_of false) ≡ one
    full = unfold sub of_bits in refl

before-finite : (x next : Float) → T (fits binary64 x) → T (finite next) → between (zero_of false) x next ≡ before next x
before-finite x next f h = weightless x next f ∙ ap (add binary64 x) (times_zero next h) ∙ plus-zero x (negative next) f

before-infinite : (x next : Float) → T (fits binary64 x) → finite next ≡ false → between (zero_of false) x next ≡ nan
before-infinite x next f h = weightless x next f ∙ ap (add binary64 x) (none next h) ∙ with-nan x
  where
    none : (y : Float) → finite y ≡ false → mul binary64 y (zero_of false) ≡ nan
    none nan h = unfold mul in refl
    none (inf s) h = unfold mul in refl
    none (fin s m e) h = absurd (true≢false h)

    with-nan : (y : Float) → add binary64 y nan ≡ nan
    with-nan nan = unfold add in refl
    with-nan (inf s) = unfold add in refl
    with-nan (fin s m e) = unfold add in refl

next-index : (k n : ℕ) → min (min k n + 1) n ≡ min (k + 1) n
next-index k n = omega arith

at-rank : (r : Float) (ys : List Float) (k : ℕ) → Whole r k → at_rank r ys ≡ between (zero_of false) (get_or ys (min k (length ys - 1)) nan) (get_or ys (min (k + 1) (length ys - 1)) nan)
at-rank r ys k w = opened ∙ rw (w.floor, w.index, next-index k (length ys - 1), difference-of-equals r w.bounded)
  where
    opened : at_rank r ys ≡ between (sub binary64 r (floor_of r)) (get_or ys (min (to_unsigned 64 (floor_of r)) (length ys - 1)) nan) (get_or ys (min (min (to_unsigned 64 (floor_of r)) (length ys - 1) + 1) (length ys - 1)) nan)
    opened = unfold at_rank in refl

-- ---- the values in order

all-floats : (bs : List ℕ) → All (λ x. T (fits binary64 x)) (floats bs)
unfolding floats
all-floats [] = tt
all-floats (b ∷ bs) = (of_bits-fits binary64 b, all-floats bs)

keyed : (bs : List ℕ) → All (Keyed Partial) (kept (floats bs))
keyed bs = all-keyed Partial (kept (floats bs)) (all-kept (λ x. T (fits binary64 x)) (floats bs) (all-floats bs)) (kept-numbers (floats bs))

ordered-keyed : (bs : List ℕ) → All (Keyed Partial) (ordered (floats bs))
ordered-keyed bs = keyed-sorted Partial (kept (floats bs)) (keyed bs)

fits-at : (ys : List Float) (i : ℕ) → All (Keyed Partial) ys → T (fits binary64 (get_or ys i nan))
fits-at [] i a = nan-fits binary64
fits-at (y ∷ ys) zero a = a.0.0
fits-at (y ∷ ys) (suc i) a = fits-at ys i a.1

-- ---- a rank that is whole

module _ (phi : Float) (bs : List ℕ) (k : ℕ) (small : k ≤ 2 ^ 53) (some : 0 < size (floats bs)) (r : WholeRank phi (size (floats bs)) k) where
  abbrev xs : List Float
  xs = floats bs

  value-fits : T (fits binary64 (nth xs k))
  value-fits = fits-at (ordered xs) (min k (size xs - 1)) (ordered-keyed bs)

  reached : quantile_of phi xs ≡ between (zero_of false) (nth xs k) (nth xs (k + 1))
  reached = opened ∙ rw (ne_eqb (size xs) 0 (λ e. omega arith), r.number, r.not_below, r.not_above) (at-rank (rank_of phi (size xs)) (ordered xs) k (whole (rank_of phi (size xs)) k rank-fits small r.rank))
    where
      opened : quantile_of phi xs ≡ cond (eqb (size xs) 0 || is_nan phi) nan (cond (lt phi (of_bits binary64 0)) (inf true) (cond (lt one phi) (inf false) (at_rank (rank_of phi (size xs)) (ordered xs))))
      opened = unfold quantile_of quantile_sorted in refl

      rank-fits : T (fits binary64 (rank_of phi (size xs)))
      rank-fits = unfold rank_of in mul-fits binary64 phi (of_int binary64 (pos (size xs - 1)))

  -- the value there, where the next is finite
  pub whole-rank : T (finite (nth xs (k + 1))) → quantile_of phi xs ≡ before (nth xs (k + 1)) (nth xs k)
  whole-rank h = reached ∙ before-finite (nth xs k) (nth xs (k + 1)) value-fits h

  -- NaN, where the next is infinite
  pub whole-rank-infinite : finite (nth xs (k + 1)) ≡ false → quantile_of phi xs ≡ nan
  whole-rank-infinite h = reached ∙ before-infinite (nth xs k) (nth xs (k + 1)) value-fits h

-- ---- the ends of a list in order

all_moved : (P : Float → Type 0) {xs ys : List Float} → Permᴰ xs ys → All P xs → All P ys
all_moved P Permᴰ.nil a = a
all_moved P (Permᴰ.cons e d) a = (subst P e a.0, all_moved P d a.1)
all_moved P (Permᴰ.swap d e) a = (subst P e a.1.0, (subst P d a.0, a.1.1))
all_moved P (Permᴰ.trans d e) a = all_moved P e (all_moved P d a)

not-below-itself : (x : Float) → Keyed Partial x → lt x x ≡ false
not-below-itself x k = lt-rank x x k.0 k.0 k.1 k.1 ∙ le-ltb (rank x) (rank x) (omega arith)

-- values below 0.0 are those below −0.0
same-below : (x y next : Float) → Keyed Partial x → Keyed Partial y → lt x (before next y) ≡ lt x y
same-below x y next k l = pick (eq y (zero_of false)) (negative y && not (negative next)) refl
  where
    level : eq y (zero_of false) ≡ true → lt x (zero_of false) ≡ lt x y
    level h =
        let same : rank y ≡ rank (zero_of false) = eqb-true (rank y) (rank (zero_of false)) (sym (eq-rank y (zero_of false) l.0 (unfold fits in tt) l.1 (unfold is_nan in refl)) ∙ h) in
        lt-rank x (zero_of false) k.0 (unfold fits in tt) k.1 (unfold is_nan in refl) ∙ rw (sym same) (sym (lt-rank x y k.0 l.0 k.1 l.1))

    pick : (s t : Bool) → eq y (zero_of false) ≡ s → lt x (cond (s && t) (zero_of false) y) ≡ lt x y
    pick true true h = level h
    pick true false h = refl
    pick false t h = refl

none-below-first : (q y : Float) (ys : List Float) → All (Keyed Partial) ys → All (λ x. lt x y ≡ false) ys → ((x : Float) → Keyed Partial x → lt x q ≡ lt x y) → All (λ x. lt x q ≡ false) ys
none-below-first q y [] k a same = tt
none-below-first q y (x ∷ xs) k a same = (same x k.0 ∙ a.0, none-below-first q y xs k.1 a.1 same)

first-least : (next : Float) (ys : List Float) (i : ℕ) → i ≡ 0 → All (Keyed Partial) ys → InOrder Partial ys → All (λ x. lt x (before next (get_or ys i nan)) ≡ false) ys
first-least next [] i e k o = tt
first-least next (y ∷ ys) i e k o =
    subst (λ (j : ℕ). All (λ x. lt x (before next (get_or (y ∷ ys) j nan)) ≡ false) (y ∷ ys)) (sym e)
    (none-below-first (before next y) y (y ∷ ys) k (not-below-itself y k.0, o.0) (λ x l. same-below x y next l k.0))

last-greatest : (ys : List Float) (i : ℕ) → length ys ≡ suc i → All (Keyed Partial) ys → InOrder Partial ys → All (λ x. lt (get_or ys i nan) x ≡ false) ys
last-greatest [] i e k o = tt
last-greatest (y ∷ []) zero e k o = (not-below-itself y k.0, tt)
last-greatest (y ∷ z ∷ zs) zero e k o = absurd (omega arith)
last-greatest (y ∷ ys) (suc i) e k o = (all-at (λ x. lt x y ≡ false) nan ys i (omega arith) o.0, last-greatest ys i (omega arith) k.1 o.1)

-- a value beside itself keeps its sign
before-itself : (x : Float) → before x x ≡ x
before-itself x = pick (negative x)
  where
    pick : (s : Bool) → cond (eq x (zero_of false) && (s && not s)) (zero_of false) x ≡ x
    pick true = rw (and-false (eq x (zero_of false)))
    pick false = rw (and-false (eq x (zero_of false)))

-- ---- phi 0, 1 and 0.5

abbrev half : Float
half = of_bits binary64 0x3FE0000000000000

module _ (n : ℕ) (few : n ≤ 2 ^ 53) where
  abbrev steps : Float
  steps = of_int binary64 (pos (n - 1))

  count : HasValue steps false (n - 1) 1
  count = count-exact (n - 1) (omega arith)

  rank-of-zero : (minus : Bool) → WholeRank (zero_of minus) n 0
  unfolding rank_of is_nan
  rank-of-zero minus = record { number = refl; not_below = below minus; not_above = above minus; rank = rw (zero-times minus steps (n - 1) count) (level minus) }
    where
      below : (s : Bool) → lt (zero_of s) (of_bits binary64 0) ≡ false
      below true = unfold lt of_bits in refl
      below false = unfold lt of_bits in refl

      above : (s : Bool) → lt one (zero_of s) ≡ false
      above true = unfold lt of_bits in refl
      above false = unfold lt of_bits in refl

      level : (s : Bool) → eq (zero_of s) (of_int binary64 (pos 0)) ≡ true
      level true = unfold eq of_int in refl
      level false = unfold eq of_int in refl

  -- phi is a / c, and a × (n − 1) is k × c
  rank-of-fraction : (phi : Float) (a c k : ℕ) → 0 < c → HasValue phi false a c → k ≤ 2 ^ 53 → a * (n - 1) ≡ k * c → eq (rank_of phi n) (of_int binary64 (pos k)) ≡ true
  unfolding rank_of
  rank-of-fraction phi a c k C v small is =
      let K = of_int binary64 (pos k) in
      let w = count-exact k small in
      rw (product phi steps K a c (n - 1) 1 k 1 C (lit< tt) (lit< tt) (of_int-fits binary64 (pos k)) v count w (simp mul-one is)) (same-if-number K ∙ rw (value_number K false k 1 w))

  rank-of-one : WholeRank one n (n - 1)
  rank-of-one =
      record {
        number = unfold is_nan of_bits in refl;
        not_below = unfold lt of_bits in refl;
        not_above = unfold lt of_bits in refl;
        rank = rank-of-fraction one 1 1 (n - 1) (lit< tt) (unfold of_bits in (refl, refl)) (omega arith) (omega arith);
      }

  rank-of-half : (j : ℕ) → n ≡ 2 * j + 1 → WholeRank half n j
  rank-of-half j is =
      record {
        number = unfold is_nan of_bits in refl;
        not_below = unfold lt of_bits in refl;
        not_above = unfold lt of_bits in refl;
        rank = rank-of-fraction half 1 2 j (lit< tt) (unfold of_bits in (refl, refl)) (omega arith) (omega arith);
      }

module _ (bs : List ℕ) (few : size (floats bs) ≤ 2 ^ 53) where
  -- the median of an odd number of values is the one in the middle
  pub middle : (j : ℕ) → Middle (floats bs) j → T (finite (nth (floats bs) (j + 1))) → median_of (floats bs) ≡ before (nth (floats bs) (j + 1)) (nth (floats bs) j)
  middle j is h = whole-rank half bs j (omega arith) (omega arith) (rank-of-half (size (floats bs)) few j is) h

  module _ (some : 0 < size (floats bs)) (bounded : Finite (floats bs)) where
    abbrev ys : List Float
    ys = ordered (floats bs)

    nth-finite : (k : ℕ) → T (finite (nth (floats bs) k))
    nth-finite k = all-at (λ x. T (finite x)) nan ys (min k (length ys - 1)) (omega arith) (all-sort (λ x. T (finite x)) (less_of Partial) (kept (floats bs)) bounded)

    back : (P : Float → Type 0) → All P ys → All P (kept (floats bs))
    back P a = all_moved P (sorted-permutes Partial (kept (floats bs))) a

    in_order : InOrder Partial ys
    in_order = sorted-in-order Partial (kept (floats bs)) (keyed bs)

    pub least : (minus : Bool) → Least (floats bs) (quantile_of (zero_of minus) (floats bs))
    least minus =
        let next = nth (floats bs) 1 in
        let first : quantile_of (zero_of minus) (floats bs) ≡ before next (nth (floats bs) 0) = whole-rank (zero_of minus) bs 0 (omega arith) some (rank-of-zero (length ys) few minus) (nth-finite 1) in
        record { first = first; none_below = rw first (back (λ x. lt x (before next (nth (floats bs) 0)) ≡ false) (first-least next ys _ (omega arith) (ordered-keyed bs) in_order)) }

    pub greatest : Greatest (floats bs) (quantile_of one (floats bs))
    greatest =
        let k = length ys - 1 in
        let next-is-last : min (k + 1) (length ys - 1) ≡ min k (length ys - 1) = omega arith in
        let last : quantile_of one (floats bs) ≡ nth (floats bs) k =
        whole-rank one bs k (omega arith) some (rank-of-one (length ys) few) (nth-finite (k + 1)) ∙ ap (λ (i : ℕ). before (get_or ys i nan) (nth (floats bs) k)) next-is-last ∙ before-itself (nth (floats bs) k) in
        record { last = last; none_above = rw last (back (λ x. lt (nth (floats bs) k) x ≡ false) (last-greatest ys (min k (length ys - 1)) (omega arith) (ordered-keyed bs) in_order)) }
