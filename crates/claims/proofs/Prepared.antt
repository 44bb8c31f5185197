-- A prepared series holds 64-bit patterns of binary64 values: each step's values are sums, differences and quotients of the format, or are among those handed in.
-- Assumes nothing.
use mathlib.Core.Path.{◌≡◌, sym, subst, ◌∙◌}
use mathlib.Core.List.{List, [], ◌∷◌, zip_with}
use mathlib.Core.Bool.{not}
use Prim.Native.Nat.{ℕ, ◌*◌, ◌<◌}
use lib.Dec.{T}
use lib.IntN.{ℤ}
use lib.Signed.{lt_z}
use lib.Ieee.{Float, nan, binary64, fits, is_nan, of_bits, sub, top}
use lib.Ieee.Bits.{of_bits-fits, to_bits-lt}
use lib.Ieee.Fits.{add-fits, div-fits, inf-fits, sub-fits}
use Rattle.ieee.specs.Patterns.{floats, patterns}
use Rattle.marks.specs.Marks.{remaining_of}
use Rattle.steps.specs.declared.Counter.{Counter}
use Rattle.steps.specs.Steps.{corrected, counted, deltas, deltas_from, derivs, derivs_from, intervals_from, outputs_from, prepared_of, second_twice, sloped, whole_seconds}
use Rattle.steps.specs.declared.PreFunction.{PreFunction}
use Rattle.steps.specs.declared.PreFunction.TheVariants.{None, Resets, Delta, Deriv, Intervals, ResetsOnce}
use Rattle.steps.specs.declared.Slope.{Slope}
use Rattle.series.proofs.All.{All, Finite, finite-all}
use Rattle.steps.proofs.Resets.{lifted-fits}
use Rattle.ieee.proofs.Tests.{by-test}
use Rattle.record.specs.Record.{Reading, readings}
use Rattle.claims.specs.Agree.{NoNan, Prepared, Seen, Unmarked, Words}
use Rattle.claims.proofs.Unmarked.{rows-are}
use Rattle.ieee.proofs.Numbers.{finite_number}
use Rattle.series.proofs.Accepted.{accepted-series}
use Rattle.series.specs.Rows.{series_checked}
use Rattle.std.specs.Prelude.{Ok}

abbrev Fits : Float → Type 0
Fits x = T (fits binary64 x)

floats-fit : (bs : List ℕ) → All Fits (floats bs)
unfolding floats
floats-fit [] = tt
floats-fit (b ∷ bs) = (of_bits-fits binary64 b, floats-fit bs)

outputs-fit : (compared : Counter → Float) (s : Counter) → Fits s.output → (vs : List Float) → All Fits (outputs_from (λ t v. counted (compared t) t v) s vs)
unfolding corrected outputs_from
outputs-fit compared s f [] = tt
outputs-fit compared s f (v ∷ vs) =
    let t = counted (compared s) s v in
    let g = lifted-fits s.output _ f (add-fits binary64 v t.correction) in
    (g, outputs-fit compared t g vs)

deltas-fit : (d p : Float) → Fits d → (vs : List Float) → All Fits (deltas_from d p vs)
unfolding deltas_from
deltas-fit d p f [] = (f, tt)
deltas-fit d p f (v ∷ vs) = (sub-fits binary64 v p, deltas-fit (sub binary64 v p) v (sub-fits binary64 v p) vs)

sloped-fits : (s : Slope) (v : Float) (u : ℤ) → Fits s.deriv → Fits (sloped s v u).deriv
unfolding sloped
sloped-fits s v u f = by-test (lt_z s.ts u) (λ e. rw e (div-fits binary64 _ _)) (λ e. rw e f)

derivs-fit : (s : Slope) → Fits s.deriv → (ts : List ℤ) (vs : List Float) → All Fits (derivs_from s ts vs)
unfolding derivs_from
derivs-fit s f [] vs = (f, tt)
derivs-fit s f (t ∷ ts) [] = (f, tt)
derivs-fit s f (t ∷ ts) (v ∷ vs) = (sloped-fits s v t f, derivs-fit (sloped s v t) (sloped-fits s v t f) ts vs)

intervals-fit : (p : Float) (ts : List ℤ) → All Fits (intervals_from p ts)
unfolding intervals_from
intervals-fit p [] = tt
intervals-fit p (t ∷ ts) = (sub-fits binary64 (whole_seconds t) p, intervals-fit (whole_seconds t) ts)

second_fits : (xs : List Float) → All Fits xs → All Fits (second_twice xs)
second_fits [] f = tt
second_fits (x ∷ []) f = f
second_fits (x ∷ y ∷ ys) f = (f.1.0, f.1)

prepared-fit : (pre : PreFunction) (ts : List ℤ) (bs : List ℕ) → All Fits (prepared_of pre ts (floats bs))
unfolding floats prepared_of deltas derivs
prepared-fit None ts bs = floats-fit bs
prepared-fit Resets ts bs = outputs-fit (λ s. s.output) _ (inf-fits binary64 _) (floats bs)
prepared-fit Delta ts [] = tt
prepared-fit Delta ts (b ∷ bs) = deltas-fit (of_bits binary64 0) _ (of_bits-fits binary64 0) (floats bs)
prepared-fit Deriv [] bs = tt
prepared-fit Deriv (t ∷ ts) [] = tt
prepared-fit Deriv (t ∷ ts) (b ∷ bs) = derivs-fit _ (of_bits-fits binary64 0) ts (floats bs)
prepared-fit Intervals ts bs = second_fits (intervals_from nan ts) (intervals-fit nan ts)
prepared-fit ResetsOnce ts bs = outputs-fit (λ s. s.value) _ (inf-fits binary64 _) (floats bs)

-- ---- a value's pattern, where the value is no NaN

pub record Number (b : ℕ) : Type 0 where
  pub bits : b < 2 * top binary64
  pub number : T (not (is_nan (of_bits binary64 b)))

abbrev pub Numbers : List Reading → Type 0
Numbers [] = Unit {0}
Numbers (x ∷ s) = Number x.value × Numbers s

pattern-numbers : (ts : List ℤ) (xs : List Float) → All Fits xs → NoNan (readings ts (patterns xs)) → Numbers (readings ts (patterns xs))
unfolding zip_with
pattern-numbers [] xs f n = tt
pattern-numbers (t ∷ ts) [] f n = tt
pattern-numbers (t ∷ ts) (x ∷ xs) f n =
    (record { bits = to_bits-lt binary64 x f.0; number = rw n.0 tt }, pattern-numbers ts xs f.1 n.1)

pub prepared-numbers : (s : List Reading) → Prepared s → NoNan s → Numbers s
prepared-numbers s p n =
    let left = remaining_of p.times p.values in
    subst Numbers (sym p.prepared)
    (pattern-numbers left.times (prepared_of p.pre left.times (floats left.values)) (prepared-fit p.pre left.times left.values) (subst NoNan p.prepared n))

-- ---- a series as it is handed to a rollup that sees marks, where it has none

word-numbers : (ts : List ℤ) (vs : List ℕ) → Words vs → All Finite (floats vs) → Numbers (readings ts vs)
unfolding zip_with floats
word-numbers [] vs w f = tt
word-numbers (t ∷ ts) [] w f = tt
word-numbers (t ∷ ts) (v ∷ vs) w f = (record { bits = w.0; number = rw (finite_number (of_bits binary64 v) f.0) tt }, word-numbers ts vs w.1 f.1)

pub seen-numbers : (s : List Reading) (p : Seen s) → Unmarked p.values → Numbers s
seen-numbers s p u =
    let ok : series_checked p.times p.values ≡ Ok tt = sym (rows-are p.times p.values u) ∙ p.accepted in
    subst Numbers (sym p.seen) (word-numbers p.times p.values p.words (finite-all p.values (accepted-series p.times p.values ok).all_finite))
