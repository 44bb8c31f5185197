-- A preparing step by its number.
-- Assumes nothing.
use Rattle.std.specs.Prelude.{ℕ, List, [], ◌∷◌, Option, slice_get}
use Rattle.steps.specs.declared.PreFunction.{PreFunction}
use Rattle.steps.specs.declared.PreFunction.TheVariants.{None, Resets, Delta, Deriv, Intervals, ResetsOnce}

-- the steps in the order of their numbers, from 0 on
abbrev pub steps : List PreFunction
steps = None ∷ Resets ∷ Delta ∷ Deriv ∷ Intervals ∷ ResetsOnce ∷ []

-- a number past them names none
abbrev pub step_of : ℕ → Option PreFunction
step_of n = slice_get steps n
