-- Every step gives as many values as there are readings. On an accepted series they are numbers, but for the interval of a lone reading, which is NaN.
-- Assumes nothing.
use Prim.Native.Nat.{ℕ, zero, suc, ◌/◌, ◌^◌, ◌≤◌, ◌<◌}
use mathlib.Core.Path.{◌≡◌, refl, sym, ap, ◌∙◌}
use mathlib.Core.Bool.{Bool, true, false, not, false≢true}
use mathlib.Core.Logic.{◌≢◌}
use mathlib.Core.List.{List, [], ◌∷◌}
use native.Mathlib.Nat.{suc_inj, suc-ne-zero}
use native.Mathlib.Omega.{arith}
use lib.Dec.{T}
use lib.IntN.{ℤ, pos, negsuc, neg_ℤ, nat_abs, ◌-ℤ◌, +ℤ_idr}
use lib.ListN.{length}
use lib.Signed.{lt_z, le_z}
use lib.Ieee.{Float, nan, inf, fin, binary64, is_nan, of_bits, of_int, sub}
use lib.Ieee.Exact.{HasValue}
use lib.Ieee.Positive.{positive}
use Rattle.ieee.proofs.Exact.{count-exact, negative-exact}
use Rattle.times.specs.Milli.{time_limit, Within}
use Rattle.times.proofs.Order.{offset-of, offset-end}
use Rattle.times.proofs.Milli.{within-sub}
use Rattle.ieee.proofs.Tests.{by-test}
use Rattle.times.proofs.Order.{lt-le, lt_not_le, le_refl}
use Rattle.ieee.specs.Patterns.{floats}
use Rattle.ieee.specs.Value.{seconds_of}
use Rattle.steps.specs.Steps.{plus_zero, outputs_from, deltas_from, deltas, sloped, derivs_from, derivs, whole_seconds, intervals_from, second_twice, prepared_of}
use Rattle.steps.specs.declared.Slope.{Slope}
use Rattle.steps.specs.declared.PreFunction.{PreFunction}
use Rattle.steps.specs.declared.PreFunction.TheVariants.{None, Resets, Delta, Deriv, Intervals, ResetsOnce}
use Rattle.series.proofs.Accepted.{AcceptedSeries}
use Rattle.series.proofs.All.{All, Finite, Number, finite-all}
use Rattle.ieee.proofs.Numbers.{finite_number, sub_number, div-number, seconds-positive}
use Rattle.steps.specs.declared.Counter.{Counter}
use Rattle.steps.specs.Counters.{corrected_again, corrected_once}
use Rattle.steps.proofs.Resets.{counter-numbers}
use Rattle.series.proofs.Times.{within-list}

-- ---- the number of values

outputs-length : (next : Counter → Float → Counter) (s : Counter) (vs : List Float) → length (outputs_from next s vs) ≡ length vs
unfolding outputs_from
outputs-length next s [] = refl
outputs-length next s (v ∷ vs) = ap suc (outputs-length next (next s v) vs)

deltas-length : (d p : Float) (vs : List Float) → length (deltas_from d p vs) ≡ suc (length vs)
unfolding deltas_from
deltas-length d p [] = refl
deltas-length d p (v ∷ vs) = ap suc (deltas-length (sub binary64 v p) v vs)

derivs-length : (s : Slope) (ts : List ℤ) (vs : List Float) → length ts ≡ length vs → length (derivs_from s ts vs) ≡ suc (length vs)
unfolding derivs_from
derivs-length s [] [] e = refl
derivs-length s [] (v ∷ vs) e = absurd (suc-ne-zero (length vs) (sym e))
derivs-length s (t ∷ ts) [] e = absurd (suc-ne-zero (length ts) e)
derivs-length s (t ∷ ts) (v ∷ vs) e = ap suc (derivs-length (sloped s v t) ts vs (suc_inj e))

intervals-length : (p : Float) (ts : List ℤ) → length (intervals_from p ts) ≡ length ts
unfolding intervals_from
intervals-length p [] = refl
intervals-length p (t ∷ ts) = ap suc (intervals-length (whole_seconds t) ts)

second-length : (xs : List Float) → length (second_twice xs) ≡ length xs
second-length [] = refl
second-length (x ∷ []) = refl
second-length (x ∷ y ∷ ys) = refl

pub prepared-length : (pre : PreFunction) (ts : List ℤ) (vs : List Float) → length ts ≡ length vs → length (prepared_of pre ts vs) ≡ length vs
unfolding prepared_of deltas derivs
prepared-length None ts vs e = refl
prepared-length Resets ts vs e = outputs-length _ _ vs
prepared-length Delta ts [] e = refl
prepared-length Delta ts (v ∷ vs) e = deltas-length plus_zero v vs
prepared-length Deriv [] vs e = e
prepared-length Deriv (t ∷ ts) [] e = refl
prepared-length Deriv (t ∷ ts) (v ∷ vs) e = derivs-length _ ts vs (suc_inj e)
prepared-length Intervals ts vs e = second-length (intervals_from nan ts) ∙ intervals-length nan ts ∙ e
prepared-length ResetsOnce ts vs e = outputs-length _ _ vs

-- ---- delta

deltas-numbers : (d p : Float) → Number d → Finite p → (vs : List Float) → All Finite vs → All Number (deltas_from d p vs)
unfolding deltas_from
deltas-numbers d p h k [] a = (h, tt)
deltas-numbers d p h k (v ∷ vs) a =
    let step = sub_number binary64 v p (finite_number v a.0) k in
    (step, deltas-numbers (sub binary64 v p) v step a.0 vs a.1)

-- ---- deriv

-- from a time to a later one there is a positive number of seconds
later-positive : (t u : ℤ) → Within time_limit t → Within time_limit u → lt_z t u ≡ true → T (positive (seconds_of (u -ℤ t)))
later-positive t u f g later =
    let before = lt-le t u later in
    let close = (within-sub g f).size in
    rw (offset-of t u before) (seconds-positive (nat_abs (u -ℤ t)) (apart (nat_abs (u -ℤ t)) refl before) (omega arith))
  where
    apart : (k : ℕ) → nat_abs (u -ℤ t) ≡ k → le_z t u ≡ true → 0 < k
    apart zero e before =
        let same : u ≡ t = offset-end t u before ∙ rw (e, +ℤ_idr t) in
        absurd (false≢true (sym (lt_not_le t t ∙ ap not (le_refl t)) ∙ rw same at later))
    apart (suc k) e before = omega arith

pub record Sloping (s : Slope) : Type 0 where
  pub deriv_number : Number s.deriv
  pub value_finite : Finite s.value
  pub time_within : Within time_limit s.ts

sloped-numbers : (s : Slope) (v : Float) (u : ℤ) → Sloping s → Finite v → Within time_limit u → Sloping (sloped s v u)
unfolding sloped
sloped-numbers s v u h k w =
    by-test (lt_z s.ts u)
    (λ later. rw later
    record {
      deriv_number = div-number binary64 _ _ (sub_number binary64 v s.value (finite_number v k) h.value_finite) (later-positive s.ts u h.time_within w later);
      value_finite = k;
      time_within = w;
    })
    (λ same. rw same h)

derivs-numbers : (s : Slope) → Sloping s → (ts : List ℤ) (vs : List Float) → All (Within time_limit) ts → All Finite vs → All Number (derivs_from s ts vs)
unfolding derivs_from
derivs-numbers s h [] vs w a = (h.deriv_number, tt)
derivs-numbers s h (t ∷ ts) [] w a = (h.deriv_number, tt)
derivs-numbers s h (t ∷ ts) (v ∷ vs) w a =
    let next = sloped-numbers s v t h a.0 w.0 in
    (next.deriv_number, derivs-numbers (sloped s v t) next ts vs w.1 a.1)

-- ---- intervals

value_finite : (x : Float) (s : Bool) (a c : ℕ) → HasValue x s a c → Finite x
value_finite nan s a c h = absurd h
value_finite (inf t) s a c h = absurd h
value_finite (fin t m e) s a c h = refl

count-finite : (n : ℕ) → n ≤ 2 ^ 53 → Finite (of_int binary64 (pos n))
count-finite n h = value_finite (of_int binary64 (pos n)) false n 1 (count-exact n h)

negative-finite : (n : ℕ) → n ≤ 2 ^ 53 → Finite (of_int binary64 (neg_ℤ (pos n)))
negative-finite zero h = count-finite 0 h
negative-finite (suc n) h = value_finite (of_int binary64 (negsuc n)) true (suc n) 1 (negative-exact n h)

seconds-finite : (t : ℤ) → Within time_limit t → Finite (whole_seconds t)
seconds-finite (pos n) w = count-finite (n / 1000) (omega arith)
seconds-finite (negsuc n) w = negative-finite (suc n / 1000) (omega arith)

intervals-numbers : (p : Float) → Finite p → (ts : List ℤ) → All (Within time_limit) ts → All Number (intervals_from p ts)
unfolding intervals_from
intervals-numbers p h [] w = tt
intervals-numbers p h (t ∷ ts) w =
    let seconds = seconds-finite t w.0 in
    (sub_number binary64 (whole_seconds t) p (finite_number (whole_seconds t) seconds) h, intervals-numbers (whole_seconds t) seconds ts w.1)

-- ---- every step

all-numbers : (vs : List Float) → All Finite vs → All Number vs
all-numbers [] a = tt
all-numbers (v ∷ vs) a = (finite_number v a.0, all-numbers vs a.1)

numbers : (pre : PreFunction) (ts : List ℤ) (vs : List Float) → All (Within time_limit) ts → All Finite vs → (pre ≡ Intervals → length ts ≢ 1) → All Number (prepared_of pre ts vs)
unfolding prepared_of deltas derivs intervals_from is_nan of_bits
numbers None ts vs w a lone = all-numbers vs a
numbers Resets ts vs w a lone = counter-numbers corrected_again ts vs a
numbers Delta ts [] w a lone = tt
numbers Delta ts (v ∷ vs) w a lone = deltas-numbers plus_zero v refl a.0 vs a.1
numbers Deriv [] vs w a lone = tt
numbers Deriv (t ∷ ts) [] w a lone = tt
numbers Deriv (t ∷ ts) (v ∷ vs) w a lone = derivs-numbers _ (record { deriv_number = refl; value_finite = a.0; time_within = w.0 }) ts vs w.1 a.1
numbers Intervals [] vs w a lone = tt
numbers Intervals (t ∷ []) vs w a lone = absurd (lone refl refl)
numbers Intervals (t ∷ u ∷ us) vs w a lone =
    let later = intervals-numbers (whole_seconds t) (seconds-finite t w.0) (u ∷ us) w.1 in
    (later.0, later)
numbers ResetsOnce ts vs w a lone = counter-numbers corrected_once ts vs a

pub prepared-not-nan : (pre : PreFunction) (ts : List ℤ) (bs : List ℕ) → AcceptedSeries ts bs → (pre ≡ Intervals → length ts ≢ 1) → All Number (prepared_of pre ts (floats bs))
prepared-not-nan pre ts bs accepted lone = numbers pre ts (floats bs) (within-list ts accepted.times.all_inside) (finite-all bs accepted.all_finite) lone
