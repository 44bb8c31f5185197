-- The mode as common/math.rs has it: the longest run of equal samples among the sorted ones, the first of equally long runs.
-- The predecessor stands before the sorted samples for one sample, so that it joins a run of the least. The Rust's i − j is the length of the run at hand.
use Rattle.std.specs.Prelude.{Bool, cond, ◌||◌, ℕ, ◌+◌, ltb, Float}
use mathlib.Core.List.{List, foldl}
use Rattle.std.specs.Float.Ieee.{eq, is_nan}
use Rattle.order.specs.Order.{sorted}
use Rattle.order.specs.declared.Order.TheVariants.{Total}

-- the value of the run at hand and its length; the longest run before it and its value
pub record Runs : Type 0 where
  pub prev : Float
  pub run : ℕ
  pub most : ℕ
  pub mode : Float

-- the run at hand is longer than those before it, or those gave NaN
abbrev pub is_outdone : ℕ → ℕ → Float → Bool
is_outdone run most mode = ltb most run || is_nan mode

-- the longest run and its value, with the run at hand
abbrev pub longest : Runs → ℕ
longest s = cond (is_outdone s.run s.most s.mode) s.run s.most

abbrev pub mode_with : Runs → Float
mode_with s = cond (is_outdone s.run s.most s.mode) s.prev s.mode

-- an equal sample goes on with the run, another begins one
unfoldable pub run_step : Runs → Float → Runs
unfolding eq is_nan
run_step s x =
    cond (eq s.prev x)
    (record { prev = s.prev; run = s.run + 1; most = s.most; mode = s.mode })
    (record { prev = x; run = 1; most = longest s; mode = mode_with s })

-- the mode of sorted samples
unfoldable pub mode_sorted : Float → List Float → Float
unfolding run_step
mode_sorted prev xs = mode_with (foldl run_step (record { prev = prev; run = 1; most = 0; mode = prev }) xs)

-- the samples are sorted by `total_cmp`
unfoldable pub mode_of : Float → List Float → Float
unfolding mode_sorted
mode_of prev xs = mode_sorted prev (sorted Total xs)
