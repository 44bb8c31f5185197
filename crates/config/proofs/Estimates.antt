-- The estimate of times that do not fall lies from 1 to the longest distance that two times within the limit can have, 2^51.
-- Among up to 20 values the weights that quantile 0.6 gives are computed, and with each of them two values up to 2^51 make one up to 2^51.
-- Assumes nothing.
use Prim.Native.Nat.{ℕ, zero, suc, ◌+◌, ◌-◌, ◌*◌, ◌/◌, ◌^◌, ◌≤◌, ◌<◌, min}
use native.Mathlib.Omega.{arith}
use mathlib.Core.Logic.{◌⊎◌, inl, inr, ⊎_elim}
use mathlib.Core.Path.{◌≡◌, refl, sym}
use mathlib.Core.Bool.{Bool, true, false, ◌&&◌}
use mathlib.Core.List.{List, [], ◌∷◌, map}
use borrow.Author.Tests.{eqb-false, ltb-true, ltb-false, leb-false}
use lib.Dec.{T, leb, ltb, eqb, leb→le, lit≤, lit<}
use lib.IntN.{ℤ, pos, negsuc, nat_abs}
use lib.Ieee.{Float, nan, inf, fin, binary64, is_nan, up, down, of_bits, of_int, add, sub, mul, round, lt, to_unsigned, to_signed}
use lib.Ieee.Fits.{and_l, and_r, down_pos}
use lib.Ieee.Nearest.{div_mono}
use lib.Ieee.Positive.{num, den, den_pos, through}
use lib.ListN.{length, get_or, take, length-take, length-map}
use Rattle.ieee.specs.Value.{floor_of}
use Rattle.sort.specs.Values.{kept}
use Rattle.order.specs.Sort.{All}
use Rattle.order.specs.Order.{sorted}
use Rattle.order.specs.declared.Order.TheVariants.{Partial}
use Rattle.quantile.specs.Quantile.{between, at_rank, rank_of, quantile_sorted, quantile_of}
use Rattle.sort.proofs.Kept.{all-kept, length-kept}
use Rattle.order.proofs.Sorting.{all-at, all-sort, all_take, length-sort}
use Rattle.times.specs.Milli.{time_limit, Within}
use Rattle.times.specs.Later.{NotFalling}
use Rattle.times.proofs.Order.{offset-of}
use Rattle.times.proofs.Later.{not-falling-tail}
use Rattle.times.proofs.Milli.{within-sub}
use Rattle.ieee.proofs.Tests.{by-test}
use Rattle.config.specs.Estimate.{distances_from, distances, first_intervals, or_silence, estimate_of}
use Rattle.config.proofs.Bounded.{plain, Below, round-below, mul-below, add-below}
use Rattle.settings.proofs.Passed.{UpTo}

-- 0.6
abbrev phi : Float
phi = of_bits binary64 0x3FE3333333333333

-- 2^51
abbrev longest : Float
longest = fin false 1 (pos 51)

-- ---- the weights

-- of the upper one of the two values next to the rank, among n
unfoldable weight : ℕ → Float
unfolding rank_of sub floor_of
weight n = sub binary64 (rank_of phi n) (floor_of (rank_of phi n))

-- of the lower one
unfoldable other : Float → Float
unfolding sub
other w = sub binary64 (of_bits binary64 0x3FF0000000000000) w

-- both are plain, and 2^51 weighted with itself is plain on the way and at most 2^51
abbrev good : Float → Bool
good w =
    plain w && plain (other w) && plain (mul binary64 longest (other w)) && plain (mul binary64 longest w) && plain (between w longest longest)
    && leb (num (between w longest longest) * den longest) (num longest * den (between w longest longest))

-- among n values and fewer
unfoldable all_good : ℕ → Bool
unfolding weight other
all_good zero = true
all_good (suc n) = good (weight (suc n)) && all_good n

all-good : T (all_good 20)
unfolding all_good weight other rank_of sub mul add between floor_of round of_int of_bits lt to_unsigned
all-good = tt

good-at : (k n : ℕ) → n < k → T (all_good k) → T (good (weight (suc n)))
unfolding all_good
good-at zero n h t = absurd (omega arith)
good-at (suc k) n h t =
    by-test (ltb n k) (λ e. good-at k n (ltb-true n k e) (and_r (good (weight (suc k))) (all_good k) t))
    (λ e. let last : n ≡ k = omega (arith, ltb-false n k e) in rw last (and_l (good (weight (suc k))) (all_good k) t))

six : (a b c d e f : Bool) → T (a && b && c && d && e && f) → T a × T b × T c × T d × T e × T f
six true true true true true true t = (tt, tt, tt, tt, tt, tt)
six true true true true true false t = absurd t
six true true true true false f t = absurd t
six true true true false e f t = absurd t
six true true false d e f t = absurd t
six true false c d e f t = absurd t
six false b c d e f t = absurd t

between-longest : (w x y : Float) → T (good w) → Below x longest → Below y longest → Below (between w x y) longest
unfolding between other
between-longest w x y t h k =
    let top = between w longest longest in
    let ok = six (plain w) (plain (other w)) (plain (mul binary64 longest (other w))) (plain (mul binary64 longest w)) (plain top) (leb (num top * den longest) (num longest * den top)) t in
    let grown : Below (between w x y) top = add-below (mul binary64 x (other w)) (mul binary64 longest (other w)) (mul binary64 y w) (mul binary64 longest w) (mul-below x longest (other w) h ok.1 ok.2) (mul-below y longest w k ok.0 ok.3) ok.4 in
    record {
      left = grown.left;
      right = tt;
      order = through (num (between w x y)) (num top) (num longest) (den (between w x y)) (den top) (den longest) (den_pos top) grown.order (leb→le (num top * den longest) (num longest * den top) ok.5);
    }

-- ---- sorted values

rank-longest : (xs : List Float) → 0 < length xs → length xs ≤ 20 → All (λ x. Below x longest) xs → Below (at_rank (rank_of phi (length xs)) xs) longest
unfolding at_rank weight
rank-longest xs some few a =
    let i = min (to_unsigned 64 (floor_of (rank_of phi (length xs)))) (length xs - 1) in
    let n : suc (length xs - 1) ≡ length xs = omega arith in
    between-longest (weight (length xs)) (get_or xs i nan) (get_or xs (min (i + 1) (length xs - 1)) nan) (rw n at (good-at 20 (length xs - 1) (omega arith) all-good))
    (all-at (λ x. Below x longest) nan xs i (omega arith) a)
    (all-at (λ x. Below x longest) nan xs (min (i + 1) (length xs - 1)) (omega arith) a)

quantile-longest : (xs : List Float) → length xs ≤ 20 → All (λ x. Below x longest) xs → (quantile_of phi xs ≡ nan) ⊎ Below (quantile_of phi xs) longest
unfolding quantile_of quantile_sorted lt of_bits is_nan
quantile-longest xs few a =
    let ys = sorted Partial (kept xs) in
    let size : length ys ≤ 20 = omega (arith, length-sort lt (kept xs), length-kept xs) in
    by-test (eqb (length ys) 0) (λ e. inl (rw e))
    (λ e. inr (rw e (rank-longest ys (some (length ys) (eqb-false (length ys) 0 e)) size (all-sort (λ x. Below x longest) lt (kept xs) (all-kept (λ x. Below x longest) xs a)))))
  where
    some : (n : ℕ) → (n ≡ 0 → ⊥) → 0 < n
    some zero h = absurd (h refl)
    some (suc n) h = omega arith

-- ---- the estimate

small-part : (x : Float) → Below x longest → or_silence (to_signed 63 x) ≤ 2 ^ 51
unfolding to_signed
small-part nan h = absurd h.left
small-part (inf s) h = absurd h.left
small-part (fin true m e) h = absurd h.left
small-part (fin false m e) h =
    let part = m * up e / down e in
    let small : part ≤ 2 ^ 51 = div_mono (m * up e) (down e) (2 ^ 51) 1 (down_pos e) (lit< tt) h.order in
    by-test (leb (min part (2 ^ 63 - 1)) 0) (λ t. rw t (lit≤ tt)) (λ t. rw t (omega arith))

of-int : (d : ℤ) → UpTo (2 ^ 51) d → Below (of_int binary64 d) longest
unfolding of_int round
of-int d h = rw (← h.whole) (round-below (nat_abs d) 1 (2 ^ 51) 1 (lit< tt) (lit< tt) (omega (arith, h.small)) tt)

all-floats : (ds : List ℤ) → All (UpTo (2 ^ 51)) ds → All (λ x. Below x longest) (map (of_int binary64) ds)
all-floats [] a = tt
all-floats (d ∷ ds) a = (of-int d a.0, all-floats ds a.1)

-- two times next to each other are at most 2^51 apart
spaced-from : (t : ℤ) (us : List ℤ) → NotFalling (t ∷ us) → ((i : ℕ) → i < suc (length us) → Within time_limit (get_or (t ∷ us) i (pos 0))) → All (UpTo (2 ^ 51)) (distances_from t us)
unfolding distances_from
spaced-from t [] n w = tt
spaced-from t (u ∷ us) n w =
    let far = within-sub (w 1 (omega arith)) (w 0 (omega arith)) in
    (record { whole = sym (offset-of t u (n.next 0 (omega arith))); small = far.size }, spaced-from u us (not-falling-tail n) (λ i h. w (suc i) (omega arith)))

spaced : (ts : List ℤ) → NotFalling ts → ((i : ℕ) → i < length ts → Within time_limit (get_or ts i (pos 0))) → All (UpTo (2 ^ 51)) (distances ts)
unfolding distances
spaced [] n w = tt
spaced (t ∷ ts) n w = spaced-from t ts n w

pub estimate-small : (ts : List ℤ) → NotFalling ts → ((i : ℕ) → i < length ts → Within time_limit (get_or ts i (pos 0))) → estimate_of ts ≤ 2 ^ 51
unfolding estimate_of
estimate-small ts n w =
    let ds = take 20 (distances ts) in
    let few : length (first_intervals ts) ≤ 20 = simp (length-map, length-take) (omega arith) in
    by-test (ltb (length ts) 2) (λ e. rw e (lit≤ tt))
    (λ e. rw e
    (⊎_elim (λ q. rw q (unfold to_signed in lit≤ tt)) (λ q. small-part (quantile_of phi (first_intervals ts)) q)
    (quantile-longest (first_intervals ts) few (all-floats ds (all_take (UpTo (2 ^ 51)) 20 (distances ts) (spaced ts n w))))))

some-or-silence : (z : ℤ) → 0 < or_silence z
some-or-silence (pos n) = by-test (leb n 0) (λ e. rw e (lit< tt)) (λ e. rw e (leb-false n 0 e))
some-or-silence (negsuc n) = lit< tt

pub estimate-some : (ts : List ℤ) → 0 < estimate_of ts
unfolding estimate_of
estimate-some ts =
    by-test (ltb (length ts) 2) (λ e. rw e (lit< tt)) (λ e. rw e (some-or-silence (to_signed 63 (quantile_of phi (first_intervals ts)))))
