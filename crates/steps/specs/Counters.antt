-- What the theorems about the counter steps speak of.
-- Assumes nothing.
use Rattle.std.specs.Prelude.{ℕ, suc, ◌<◌, ◌≡◌, true, List, length, get_or, Float}
use Rattle.std.specs.Float.Ieee.{le}
use Rattle.steps.specs.declared.PreFunction.{PreFunction}
use Rattle.steps.specs.declared.PreFunction.TheVariants.{Resets, ResetsOnce}

-- the steps that add a counter's restarts back
pub data CounterStep : PreFunction → Type 0 where
  corrected_again : CounterStep Resets
  corrected_once : CounterStep ResetsOnce

-- each value is at most the next one
abbrev pub NeverFalls : List Float → Type 0
NeverFalls vs = (d : Float) (i : ℕ) → suc i < length vs → le (get_or vs i d) (get_or vs (suc i) d) ≡ true
