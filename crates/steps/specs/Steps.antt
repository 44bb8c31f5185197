-- The preparing steps, each from the values of a series (and its times) to as many values, with Rust's operations in source order.
-- Assumes nothing.
use Rattle.std.specs.Prelude.{List, [], ◌∷◌, Bool, true, false, ℤ, pos, ◌-ℤ◌, Float}
use Rattle.std.specs.Int.Signed.{lt_z, quot_z}
use Rattle.std.specs.Float.{nan, inf, binary64}
use Rattle.std.specs.Float.Ieee.{of_bits, of_int, add, sub, mul, div, neg, lt}
use Rattle.ieee.specs.Value.{seconds_of}
use Rattle.steps.specs.declared.PreFunction.{PreFunction}
use Rattle.steps.specs.declared.PreFunction.TheVariants.{None, Resets, Delta, Deriv, Intervals, ResetsOnce}
use Rattle.steps.specs.declared.Counter.{Counter}
use Rattle.steps.specs.declared.Slope.{Slope}

-- +0.0 and 8.0
abbrev pub plus_zero : Float
plus_zero = of_bits binary64 0

abbrev pub eight : Float
eight = of_bits binary64 0x4020_0000_0000_0000

abbrev pub pick : {A : Type 0} → Bool → A → A → A
pick true a b = a
pick false a b = b

-- ---- the counter steps: resets, `remove_counter_resets`; and resets_once, which the Rust does not have and which corrects each restart once

-- what a fall from p to the raw value v adds: p - v where -8 d < p for d = v - p, else p
abbrev pub fallen : Float → Float → Float
fallen p v = pick (lt (mul binary64 (neg (sub binary64 v p)) eight) p) (sub binary64 p v) p

-- the correction c once the raw value v is compared with p: it grows where v - p < 0
unfoldable pub grown : Float → Float → Float → Float
grown c p v = pick (lt (sub binary64 v p) plus_zero) (add binary64 c (fallen p v)) c

-- a value w, lifted to its predecessor p if below
unfoldable pub lifted : Float → Float → Float
lifted p w = pick (lt w p) p w

-- the state after the raw value v, with a correction c
unfoldable pub corrected : Float → Counter → Float → Counter
corrected c s v = record { correction = c; value = v; output = lifted s.output (add binary64 v c) }

-- the state after the raw value v, which is compared with p
abbrev pub counted : Float → Counter → Float → Counter
counted p s v = corrected (grown s.correction p v) s v

-- resets compares with the output before: after a restart each value that is still below it is corrected again
abbrev pub counter_after : Counter → Float → Counter
counter_after s v = counted s.output s v

-- resets_once compares with the raw value before
abbrev pub counter_after_once : Counter → Float → Counter
counter_after_once s v = counted s.value s v

-- the one or the other: whether a restart is corrected again
abbrev pub counter_after_either : Bool → Counter → Float → Counter
counter_after_either again s v = pick again (counter_after s v) (counter_after_once s v)

-- the outputs from a state on, where each value leads to the next state
unfoldable pub outputs_from : (Counter → Float → Counter) → Counter → List Float → List Float
outputs_from next s [] = []
outputs_from next s (v ∷ vs) = (next s v).output ∷ outputs_from next (next s v) vs

-- The correction starts at +0.0 and is added to the first value too, so −0.0 becomes +0.0. Before that value stands −∞: nothing lies below it.
abbrev pub begun : Counter
begun = record { correction = plus_zero; value = inf true; output = inf true }

abbrev pub resets : List Float → List Float
resets vs = outputs_from counter_after begun vs

abbrev pub resets_once : List Float → List Float
resets_once vs = outputs_from counter_after_once begun vs

-- ---- delta: `delta_values`

-- each step to the next value after p; at the end the last step d again
unfoldable pub deltas_from : Float → Float → List Float → List Float
deltas_from d p [] = d ∷ []
deltas_from d p (v ∷ vs) = sub binary64 v p ∷ deltas_from (sub binary64 v p) v vs

unfoldable pub deltas : List Float → List Float
deltas [] = []
deltas (v ∷ vs) = deltas_from plus_zero v vs

-- ---- deriv: `deriv_values`

-- the slope to the reading v at u, per second; where u is no later time, the last slope again, and the reading is passed over
unfoldable pub sloped : Slope → Float → ℤ → Slope
sloped s v u = pick (lt_z s.ts u) (record { deriv = div binary64 (sub binary64 v s.value) (seconds_of (u -ℤ s.ts)); value = v; ts = u }) s

-- each slope to the next reading; at the end the last slope again
unfoldable pub derivs_from : Slope → List ℤ → List Float → List Float
derivs_from s (u ∷ us) (v ∷ vs) = (sloped s v u).deriv ∷ derivs_from (sloped s v u) us vs
derivs_from s [] vs = s.deriv ∷ []
derivs_from s (u ∷ us) [] = s.deriv ∷ []

unfoldable pub derivs : List ℤ → List Float → List Float
derivs (t ∷ ts) (v ∷ vs) = derivs_from (record { deriv = plus_zero; value = v; ts = t }) ts vs
derivs [] vs = []
derivs (t ∷ ts) [] = []

-- ---- intervals: `calc_sample_intervals_pre_fn`

-- whole seconds, toward zero
abbrev pub whole_seconds : ℤ → Float
whole_seconds t = of_int binary64 (quot_z t (pos 1000))

-- each time's interval from the one before it, which is p seconds
unfoldable pub intervals_from : Float → List ℤ → List Float
intervals_from p [] = []
intervals_from p (t ∷ ts) = sub binary64 (whole_seconds t) p ∷ intervals_from (whole_seconds t) ts

-- the second value in the first one's place too, where there is one
abbrev pub second_twice : List Float → List Float
second_twice [] = []
second_twice (x ∷ []) = x ∷ []
second_twice (x ∷ y ∷ ys) = y ∷ y ∷ ys

abbrev pub intervals : List ℤ → List Float
intervals ts = second_twice (intervals_from nan ts)

-- ---- the choice of a step

unfoldable pub prepared_of : PreFunction → List ℤ → List Float → List Float
prepared_of None ts vs = vs
prepared_of Resets ts vs = resets vs
prepared_of Delta ts vs = deltas vs
prepared_of Deriv ts vs = derivs ts vs
prepared_of Intervals ts vs = intervals ts
prepared_of ResetsOnce ts vs = resets_once vs
