-- The loop of a counter step: what it has written and the outputs still to write make the whole list of outputs, and each output is a number.
-- Assumes nothing.
use Prim.Native.Nat.{ℕ, ◌+◌, ◌≤◌, ◌<◌}
use mathlib.Core.Path.{◌≡◌, refl}
use mathlib.Core.Bool.{Bool, true, false}
use mathlib.Core.List.{List}
use lib.ListN.{length, get_or, set, drop, drop_of_length-le}
use lib.Ieee.{Float, binary64, nan, to_bits}
use Rattle.ieee.specs.Patterns.{patterns}
use Rattle.series.proofs.All.{Finite, Number}
use Rattle.steps.specs.declared.Counter.{Counter}
use Rattle.steps.specs.Steps.{begun, counted, counter_after_either, outputs_from}
use Rattle.steps.proofs.Resets.{Keeps, Sound, begun-sound, keeps_output, keeps-value}
use Rattle.times.proofs.Written.{Written, turn, done, left_at}

-- what of its state a step compares a value with
abbrev compared : Bool → Counter → Float
compared true s = s.output
compared false s = s.value

either-is : (again : Bool) (s : Counter) (v : Float) → counter_after_either again s v ≡ counted (compared again s) s v
either-is true s v = refl
either-is false s v = refl

keeps : (again : Bool) → Keeps (compared again)
keeps true = keeps_output
keeps false = keeps-value

begins : (again : Bool) → Sound (compared again begun) begun
begins true = begun-sound
begins false = begun-sound

module _ (again : Bool) (values : List Float) where
  -- the outputs of all values
  abbrev outputs : List ℕ
  outputs = patterns (outputs_from (counter_after_either again) begun values)

  -- i values are done, and led to a state
  pub record Counting (i : ℕ) (prepared : List ℕ) (s : Counter) : Type 0 where
    pub sound : Sound (compared again s) s
    pub written : Written (length values) i prepared (patterns (outputs_from (counter_after_either again) s (drop i values))) outputs

  pub counting-begins : {prepared : List ℕ} {s : Counter} → s ≡ begun → length prepared ≡ length values → Counting 0 prepared s
  counting-begins is-begun e = rw is-begun record { sound = begins again; written = record { size = e; parts = refl } }

  module _ {i : ℕ} {prepared : List ℕ} {s t : Counter} (v : Float) (w : Counting i prepared s) (k : Finite v) (is-next : t ≡ counter_after_either again s v) where
    next-sound : Sound (compared again t) t
    next-sound = rw (is-next, either-is again s v) (keeps again s v w.sound k)

    pub counting-number : Number t.output
    counting-number = next-sound.number

    pub counting-turn : {b : ℕ} → i < length values → v ≡ get_or values i nan → b ≡ to_bits binary64 t.output → Counting (i + 1) (set prepared i b) t
    unfolding outputs_from
    counting-turn h is-value is-pattern =
        record { sound = next-sound; written = turn h (rw (left_at values i nan h, ← is-value, ← is-next) at w.written) is-pattern }

  pub counting-done : {i : ℕ} {prepared : List ℕ} {s : Counter} → length values ≤ i → Counting i prepared s → prepared ≡ outputs
  unfolding outputs_from
  counting-done {i} h w = done h (rw (drop_of_length-le values {i = i} h) at w.written)
