-- resets_once corrects a restart once: its correction moves only where a value is below the one before (`correction-stays`).
-- So on values that never fall no step corrects anything, and the two counter steps agree, value for value (`never-falling-agree`): there the correction stays
-- +0.0, and the output before and the raw value before stand at the same place in the order.
-- Assumes nothing.
use Prim.Native.Nat.{ℕ, suc}
use mathlib.Core.Path.{◌≡◌, refl, sym, ap, ◌∙◌}
use mathlib.Core.Bool.{true, false, false≢true}
use mathlib.Core.List.{List, [], ◌∷◌}
use native.Mathlib.Omega.{arith}
use lib.Dec.{T}
use lib.IntN.{ℤ}
use lib.Ieee.{Float, nan, inf, fin, binary64, add, fits, is_nan, lt, of_bits}
use lib.Ieee.Bits.{of_bits-fits}
use lib.Ieee.Fits.{add-fits, inf-fits}
use Rattle.ieee.specs.Patterns.{floats}
use Rattle.ieee.proofs.Differences.{difference-not-below, plus-zero-rank}
use Rattle.ieee.proofs.Numbers.{finite_number, finite-add-number}
use Rattle.ieee.proofs.Order.{le_not_lt, lt-rank}
use Rattle.ieee.proofs.Rank.{rank}
use Rattle.series.proofs.Accepted.{AcceptedSeries}
use Rattle.series.proofs.All.{All, Finite, Number, finite-all}
use Rattle.steps.specs.declared.Counter.{Counter}
use Rattle.steps.specs.declared.PreFunction.TheVariants.{Resets, ResetsOnce}
use Rattle.steps.specs.Counters.{NeverFalls}
use Rattle.steps.specs.Steps.{plus_zero, begun, corrected, counter_after, counter_after_once, grown, lifted, outputs_from, prepared_of}

grown-stays : (c p v : Float) → lt v p ≡ false → grown c p v ≡ c
unfolding grown of_bits
grown-stays c p v h = rw (difference-not-below v p h)

-- a value that is not below the one before leaves the correction as it is
pub correction-stays : (s : Counter) (v : Float) → lt v s.value ≡ false → (counter_after_once s v).correction ≡ s.correction
unfolding corrected
correction-stays s v h = grown-stays s.correction s.value v h

-- ---- values that never fall

-- no value is below the one before it, nor the first below p
abbrev NoneFalls : Float → List Float → Type 0
NoneFalls p [] = Unit
NoneFalls p (v ∷ vs) = (lt v p ≡ false) × NoneFalls v vs

none-falls : (b : ℕ) (bs : List ℕ) → NeverFalls (floats (b ∷ bs)) → NoneFalls (of_bits binary64 b) (floats bs)
unfolding floats
none-falls b [] h = tt
none-falls b (c ∷ cs) h =
    (le_not_lt (of_bits binary64 b) (of_bits binary64 c) (of_bits-fits binary64 b) (of_bits-fits binary64 c) (h nan 0 (omega arith)), none-falls c cs (λ d i l. h d (suc i) (omega arith)))

-- nothing is corrected yet, and the output before stands where the raw value before does
record Level (s : Counter) : Type 0 where
  uncorrected : s.correction ≡ plus_zero
  output_held : T (fits binary64 s.output)
  output_number : Number s.output
  value_held : T (fits binary64 s.value)
  value_number : Number s.value
  same_rank : rank s.output ≡ rank s.value

begun-level : Level begun
unfolding is_nan
begun-level =
    record {
      uncorrected = refl;
      output_held = inf-fits binary64 true;
      output_number = refl;
      value_held = inf-fits binary64 true;
      value_number = refl;
      same_rank = refl;
    }

module _ (s : Counter) (v : Float) (h : Level s) (f : T (fits binary64 v)) (k : Finite v) (up : lt v s.value ≡ false) where
  -- what stands where v does is not below the output before
  not-below-output : (w : Float) → T (fits binary64 w) → Number w → rank w ≡ rank v → lt w s.output ≡ false
  not-below-output w g n e =
      lt-rank w s.output g h.output_held n h.output_number
      ∙ rw (e, h.same_rank) (sym (lt-rank v s.value f h.value_held (finite_number v k) h.value_number) ∙ up)

  same-state : counter_after s v ≡ counter_after_once s v
  unfolding corrected
  same-state = rw (grown-stays s.correction s.output v (not-below-output v f (finite_number v k) refl), grown-stays s.correction s.value v up)

  abbrev w : Float
  w = add binary64 v plus_zero

  w-number : Number w
  unfolding of_bits is_nan
  w-number = finite-add-number binary64 v plus_zero k refl

  w-rank : rank w ≡ rank v
  unfolding of_bits
  w-rank = plus-zero-rank v f (finite_number v k)

  output-is : (counter_after_once s v).output ≡ w
  unfolding corrected lifted
  output-is = rw (grown-stays s.correction s.value v up, h.uncorrected, not-below-output w (add-fits binary64 v plus_zero) w-number w-rank)

  level-next : Level (counter_after_once s v)
  unfolding corrected
  level-next =
      record {
        uncorrected = correction-stays s v up ∙ h.uncorrected;
        output_held = rw output-is (add-fits binary64 v plus_zero);
        output_number = rw output-is w-number;
        value_held = f;
        value_number = finite_number v k;
        same_rank = ap rank output-is ∙ w-rank;
      }

  none-falls-next : (vs : List Float) → NoneFalls v vs → NoneFalls (counter_after_once s v).value vs
  unfolding corrected
  none-falls-next vs n = n

agree-from : (s : Counter) → Level s → (bs : List ℕ) → All Finite (floats bs) → NoneFalls s.value (floats bs) → outputs_from counter_after s (floats bs) ≡ outputs_from counter_after_once s (floats bs)
unfolding floats outputs_from
agree-from s h [] a n = refl
agree-from s h (b ∷ bs) a n =
    let v = of_bits binary64 b in
    let f = of_bits-fits binary64 b in
    let t = counter_after_once s v in
    rw (same-state s v h f a.0 n.0)
    (ap (λ (xs : List Float). t.output ∷ xs) (agree-from t (level-next s v h f a.0 n.0) bs a.1 (none-falls-next s v h f a.0 n.0 (floats bs) n.1)))

above-all : (v : Float) → Finite v → lt v (inf true) ≡ false
unfolding lt
above-all nan k = refl
above-all (inf s) k = absurd (false≢true k)
above-all (fin s m e) k = refl

from_first : (bs : List ℕ) → All Finite (floats bs) → NeverFalls (floats bs) → NoneFalls (inf true) (floats bs)
unfolding floats
from_first [] a h = tt
from_first (b ∷ bs) a h = (above-all (of_bits binary64 b) a.0, none-falls b bs h)

pub never-falling-agree : (ts : List ℤ) (bs : List ℕ) → AcceptedSeries ts bs → NeverFalls (floats bs) → prepared_of Resets ts (floats bs) ≡ prepared_of ResetsOnce ts (floats bs)
unfolding prepared_of
never-falling-agree ts bs accepted h =
    let finite = finite-all bs accepted.all_finite in
    agree-from begun begun-level bs finite (from_first bs finite h)
