-- On finite values the outputs of both counter steps are numbers, and they never fall.
-- The correction c and what the next value is compared with, p, stay such that the next sums are numbers: c is no NaN, p is no NaN, and of two infinities both are positive (`fine`).
-- A partial reset adds p - v, which is finite: were it not, -8 d would be infinite and not below p. A whole reset adds p.
-- Assumes nothing.
use Prim.Native.Nat.{ℕ, zero, suc, ◌<◌}
use mathlib.Core.Path.{◌≡◌, refl, sym, ◌∙◌}
use mathlib.Core.Bool.{Bool, true, false, not, false≢true, true≢false}
use mathlib.Core.List.{List, [], ◌∷◌}
use native.Mathlib.Nat.{le_refl, not-suc-le-zero, le_of_suc-le-suc}
use borrow.Author.Tests.{le-leb, ltb-false}
use lib.Dec.{T}
use lib.IntN.{ℤ}
use lib.ListN.{length, get_or}
use lib.Ieee.{Float, nan, inf, fin, binary64, fits, is_nan, of_bits, add, sub, mul, neg, lt, le}
use lib.Ieee.Fits.{add-fits, inf-fits}
use lib.Ieee.Scale.{finite}
use Rattle.ieee.proofs.Rank.{rank}
use Rattle.ieee.proofs.Order.{lt-rank, le-rank}
use Rattle.ieee.proofs.Tests.{by-test}
use Rattle.steps.specs.declared.Counter.{Counter}
use Rattle.steps.specs.declared.PreFunction.{PreFunction}
use Rattle.steps.specs.Counters.{CounterStep, corrected_again, corrected_once, NeverFalls}
use Rattle.steps.specs.Steps.{plus_zero, eight, begun, corrected, counted, grown, lifted, outputs_from, prepared_of, resets}
use Rattle.series.proofs.All.{All, Finite, Number}
use Rattle.ieee.proofs.Numbers.{add-number, finite-add-number, sub-swap}

abbrev fine : Float → Float → Bool
fine nan p = false
fine (fin s m e) p = not (is_nan p)
fine (inf true) p = finite p
fine (inf false) nan = false
fine (inf false) (inf t) = not t
fine (inf false) (fin t n d) = true

fine-correction : (c p : Float) → fine c p ≡ true → Number c
unfolding is_nan
fine-correction nan p h = absurd (false≢true h)
fine-correction (inf s) p h = refl
fine-correction (fin s m e) p h = refl

lifted-number : (p w : Float) → Number p → Number w → Number (lifted p w)
unfolding lifted
lifted-number p w h k = by-test (lt w p) (λ e. rw e h) (λ e. rw e k)

-- ---- a finite value v after a finite output p
module _ (s : Bool) (m : ℕ) (e : ℤ) (t : Bool) (n : ℕ) (d : ℤ) where
  abbrev v : Float
  v = fin s m e

  abbrev p : Float
  p = fin t n d

  -- the difference of a partial reset is finite
  partial : (x : Float) → lt x plus_zero ≡ true → lt (mul binary64 (neg x) eight) p ≡ true → Finite x
  unfolding lt mul neg of_bits
  partial nan h k = absurd (false≢true h)
  partial (inf true) h k = absurd (false≢true k)
  partial (inf false) h k = absurd (false≢true h)
  partial (fin s' m' e') h k = refl

  grown-number : (c : Float) → Number c → Number (grown c p v)
  unfolding grown
  grown-number c h =
      by-test (lt (sub binary64 v p) plus_zero)
      (λ falls. by-test (lt (mul binary64 (neg (sub binary64 v p)) eight) p)
      (λ small. rw (falls, small) (add-number binary64 c (sub binary64 p v) h (sub-swap binary64 t n d s m e ∙ partial (sub binary64 v p) falls small)))
      (λ large. rw (falls, large) (add-number binary64 c p h refl)))
      (λ stays. rw stays h)

  after : (c : Float) → Number c → fine c (lifted p (add binary64 v c)) ≡ true
  unfolding lifted add lt is_nan
  after nan h = absurd (true≢false h)
  after (inf true) h = refl
  after (inf false) h = refl
  after (fin s' m' e') h = rw (lifted-number p (add binary64 v (fin s' m' e')) refl (finite-add-number binary64 v (fin s' m' e') refl refl))

  step-fin : (c : Float) → Number c → fine (grown c p v) (lifted p (add binary64 v (grown c p v))) ≡ true
  step-fin c h = after (grown c p v) (grown-number c h)

-- ---- every turn keeps the two fine
step : (c p v : Float) → fine c p ≡ true → Finite v → fine (grown c p v) (lifted p (add binary64 v (grown c p v))) ≡ true
unfolding grown lifted add sub mul neg lt is_nan of_bits
step c p nan h k = absurd (false≢true k)
step c p (inf s) h k = absurd (false≢true k)
step nan p (fin s m e) h k = absurd (false≢true h)
step (fin s' m' e') nan (fin s m e) h k = absurd (false≢true h)
step (fin s' m' e') (inf true) (fin s m e) h k = rw (lifted-number (inf true) (add binary64 (fin s m e) (fin s' m' e')) refl (finite-add-number binary64 (fin s m e) (fin s' m' e') refl refl))
step (fin s' m' e') (inf false) (fin s m e) h k = refl
step (fin s' m' e') (fin t n d) (fin s m e) h k = step-fin s m e t n d (fin s' m' e') refl
step (inf true) nan (fin s m e) h k = absurd (false≢true h)
step (inf true) (inf t) (fin s m e) h k = absurd (false≢true h)
step (inf true) (fin t n d) (fin s m e) h k = step-fin s m e t n d (inf true) refl
step (inf false) nan (fin s m e) h k = absurd (false≢true h)
step (inf false) (inf true) (fin s m e) h k = absurd (false≢true h)
step (inf false) (inf false) (fin s m e) h k = refl
step (inf false) (fin t n d) (fin s m e) h k = step-fin s m e t n d (inf false) refl

-- ---- what is written is lifted

pub lifted-fits : (p w : Float) → T (fits binary64 p) → T (fits binary64 w) → T (fits binary64 (lifted p w))
unfolding lifted
lifted-fits p w h k = by-test (lt w p) (λ e. rw e h) (λ e. rw e k)

lifted-le : (p w : Float) → T (fits binary64 p) → T (fits binary64 w) → Number p → Number w → le p (lifted p w) ≡ true
unfolding lifted
lifted-le p w f g h k =
    by-test (lt w p)
    (λ e. rw e (le-rank p p f f h h ∙ le-leb (rank p) (rank p) (le_refl (rank p))))
    (λ e. rw e (le-rank p w f g h k ∙ le-leb (rank p) (rank w) (ltb-false (rank w) (rank p) (sym (lt-rank w p g f k h) ∙ e))))

-- ---- a value that is compared with p

-- a state in which that can be done
pub record Sound (p : Float) (s : Counter) : Type 0 where
  comparable : fine s.correction p ≡ true
  pub number : Number s.output
  held : T (fits binary64 s.output)

pub begun-sound : Sound (inf true) begun
unfolding of_bits is_nan
begun-sound = record { comparable = refl; number = refl; held = inf-fits binary64 true }

module _ (p : Float) (s : Counter) (v : Float) (h : Sound p s) (k : Finite v) where
  correction-number : Number (counted p s v).correction
  unfolding corrected
  correction-number = fine-correction (grown s.correction p v) _ (step s.correction p v h.comparable k)

  sum_number : Number (add binary64 v (counted p s v).correction)
  sum_number = finite-add-number binary64 v (counted p s v).correction k correction-number

  sound-after : (q : Float) → fine (counted p s v).correction q ≡ true → Sound q (counted p s v)
  unfolding corrected
  sound-after q f =
      record {
        comparable = f;
        number = lifted-number s.output (add binary64 v (counted p s v).correction) h.number sum_number;
        held = lifted-fits s.output (add binary64 v (counted p s v).correction) h.held (add-fits binary64 v (counted p s v).correction);
      }

  output-climbs : le s.output (counted p s v).output ≡ true
  unfolding corrected
  output-climbs = lifted-le s.output (add binary64 v (counted p s v).correction) h.held (add-fits binary64 v (counted p s v).correction) h.number sum_number

-- ---- a step, by what of its state a value is compared with

abbrev pub Keeps : (Counter → Float) → Type 0
Keeps compared = (s : Counter) (v : Float) → Sound (compared s) s → Finite v → Sound (compared (counted (compared s) s v)) (counted (compared s) s v)

pub keeps_output : Keeps (λ s. s.output)
unfolding corrected
keeps_output s v h k = sound-after s.output s v h k _ (step s.correction s.output v h.comparable k)

fine-finite : (c v : Float) → Number c → Finite v → fine c v ≡ true
unfolding is_nan
fine-finite c nan h k = absurd (false≢true k)
fine-finite c (inf s) h k = absurd (false≢true k)
fine-finite nan (fin s m e) h k = absurd (true≢false h)
fine-finite (inf true) (fin s m e) h k = refl
fine-finite (inf false) (fin s m e) h k = refl
fine-finite (fin t n d) (fin s m e) h k = refl

pub keeps-value : Keeps (λ s. s.value)
unfolding corrected
keeps-value s v h k = sound-after s.value s v h k v (fine-finite _ v (correction-number s.value s v h k) k)

-- no value of the list is below the one before it, nor the first below p
abbrev Climbs : Float → List Float → Type 0
Climbs p [] = Unit
Climbs p (x ∷ xs) = (le p x ≡ true) × Climbs x xs

module _ (compared : Counter → Float) (keeps : Keeps compared) where
  abbrev next : Counter → Float → Counter
  next s v = counted (compared s) s v

  numbers-from : (s : Counter) → Sound (compared s) s → (vs : List Float) → All Finite vs → All Number (outputs_from next s vs)
  unfolding outputs_from
  numbers-from s h [] a = tt
  numbers-from s h (v ∷ vs) a = let g = keeps s v h a.0 in (g.number, numbers-from (next s v) g vs a.1)

  climbs-from : (s : Counter) → Sound (compared s) s → (vs : List Float) → All Finite vs → Climbs s.output (outputs_from next s vs)
  unfolding outputs_from
  climbs-from s h [] a = tt
  climbs-from s h (v ∷ vs) a = (output-climbs (compared s) s v h a.0, climbs-from (next s v) (keeps s v h a.0) vs a.1)

-- ---- resets and resets_once

pub counter-numbers : {pre : PreFunction} → CounterStep pre → (ts : List ℤ) (vs : List Float) → All Finite vs → All Number (prepared_of pre ts vs)
unfolding prepared_of
counter-numbers corrected_again ts vs a = numbers-from (λ s. s.output) keeps_output begun begun-sound vs a
counter-numbers corrected_once ts vs a = numbers-from (λ s. s.value) keeps-value begun begun-sound vs a

counter-climbs : {pre : PreFunction} → CounterStep pre → (ts : List ℤ) (vs : List Float) → All Finite vs → Climbs (inf true) (prepared_of pre ts vs)
unfolding prepared_of
counter-climbs corrected_again ts vs a = climbs-from (λ s. s.output) keeps_output begun begun-sound vs a
counter-climbs corrected_once ts vs a = climbs-from (λ s. s.value) keeps-value begun begun-sound vs a

climbs-at : (p : Float) (xs : List Float) → Climbs p xs → (d : Float) (i : ℕ) → i < length xs → le (get_or (p ∷ xs) i d) (get_or xs i d) ≡ true
climbs-at p [] a d i h = absurd (not-suc-le-zero h)
climbs-at p (x ∷ xs) a d zero h = a.0
climbs-at p (x ∷ xs) a d (suc i) h = climbs-at x xs a.1 d i (le_of_suc-le-suc h)

pub counter-rises : {pre : PreFunction} → CounterStep pre → (ts : List ℤ) (vs : List Float) → All Finite vs → NeverFalls (prepared_of pre ts vs)
counter-rises {pre} step ts vs a d i h = climbs-at (inf true) (prepared_of pre ts vs) (counter-climbs step ts vs a) d (suc i) h

-- ---- of resets alone

pub resets-numbers : (vs : List Float) → All Finite vs → All Number (resets vs)
unfolding prepared_of
resets-numbers vs a = counter-numbers corrected_again [] vs a

pub resets-rise : (vs : List Float) → All Finite vs → (d : Float) (i : ℕ) → suc i < length (resets vs) → le (get_or (resets vs) i d) (get_or (resets vs) (suc i) d) ≡ true
unfolding prepared_of
resets-rise vs a d i h = counter-rises corrected_again [] vs a d i h
