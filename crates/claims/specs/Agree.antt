-- When two series hand a rollup equal records (docs/CLAIMS.md): which series are meant, when two records are equal, and what the two series agree on.
-- Assumes nothing.
use Rattle.std.specs.Prelude.{List, [], ◌∷◌, ◌≡◌, Bool, false, ℕ, ◌^◌, ◌<◌, ℤ, pos, Option, Some, None, is_some}
use Rattle.std.proofs.Math.Option.{IsSome}
use Rattle.std.specs.Float.{binary64}
use Rattle.std.specs.Float.Ieee.{is_nan, of_bits, to_bits}
use Rattle.ieee.specs.Patterns.{floats, patterns}
use Rattle.ieee.specs.Mark.{is_mark}
use Rattle.marks.specs.Marks.{marked_checked, remaining_of}
use Rattle.series.proofs.All.{All}
use Rattle.steps.specs.Steps.{prepared_of}
use Rattle.std.specs.Prelude.{Ok}
use Rattle.steps.specs.declared.PreFunction.{PreFunction}
use Rattle.record.specs.Record.{Reading, Record, readings, window, earlier, later, next, time_of, bits_of, reached}

-- a prepared series: the times that remain of an accepted series without its marks, with the values the chosen step gives them
pub record Prepared (s : List Reading) : Type 0 where
  pub times : List ℤ
  pub values : List ℕ
  pub pre : PreFunction
  pub accepted : marked_checked times values ≡ Ok tt
  pub prepared : let left = remaining_of times values in s ≡ readings left.times (patterns (prepared_of pre left.times (floats left.values)))

-- patterns of 64 bits
abbrev pub Words : List ℕ → Type 0
Words vs = All (λ b. b < 2 ^ 64) vs

-- and as it is handed to a rollup that sees marks: all readings of an accepted series, with their own bits
pub record Seen (s : List Reading) : Type 0 where
  pub times : List ℤ
  pub values : List ℕ
  pub accepted : marked_checked times values ≡ Ok tt
  pub words : Words values
  pub seen : s ≡ readings times values

-- without marks
abbrev pub Unmarked : List ℕ → Type 0
Unmarked vs = All (λ b. is_mark b ≡ false) vs

-- without NaN
abbrev pub NoNan : List Reading → Type 0
NoNan [] = Unit {0}
NoNan (x ∷ s) = (is_nan (of_bits binary64 x.value) ≡ false) × NoNan s

-- all that a record holds, its values as 64 bits: two records are equal when all of this is
pub record Bits : Type 0 where
  pub prev_value : ℕ
  pub prev_timestamp : ℤ
  pub real_prev_value : ℕ
  pub real_next_value : ℕ
  pub next_timestamp : Option ℤ
  pub curr_timestamp : ℤ
  pub window : ℤ
  pub readings : List Reading

abbrev pub record_bits : Record → Bits
record_bits x = record {
  prev_value = to_bits binary64 x.arg.prev_value;
  prev_timestamp = x.arg.prev_timestamp;
  real_prev_value = to_bits binary64 x.arg.real_prev_value;
  real_next_value = to_bits binary64 x.arg.real_next_value;
  next_timestamp = x.arg.next_timestamp;
  curr_timestamp = x.arg.curr_timestamp;
  window = x.arg.window;
  readings = x.window;
}

-- of the first reading after t a record tells whether there is one, and its time, 0 if not: its field holds both
abbrev pub has_next : Record → Bool
has_next x = is_some x.arg.next_timestamp

abbrev pub time_or_0 : Option ℤ → ℤ
time_or_0 None = pos 0
time_or_0 (Some t) = t

abbrev pub next_time : Record → ℤ
next_time x = time_or_0 x.arg.next_timestamp

-- the two series agree, bit for bit, at the output time t, for the window w and the reach r
pub record Agree (a b : List Reading) (w r t : ℤ) : Type 0 where
  -- on every reading with t − window < time ≤ t, in order
  pub same_window : window a w t ≡ window b w t
  -- on whether any stands at or before t − window, and the last such value
  pub same_earlier : bits_of (earlier a w t) ≡ bits_of (earlier b w t)
  -- on whether any stands after t, and the first such value
  pub same_next : bits_of (next a w t) ≡ bits_of (next b w t)
  -- and the first such time
  pub same_next_time : time_of (next a w t) ≡ time_of (next b w t)
  -- and, if any is later than t − window, on whether that earlier one is later than t − window − reach, and then its time
  pub same_reached : IsSome (later a w t) → reached a w r t ≡ reached b w r t
