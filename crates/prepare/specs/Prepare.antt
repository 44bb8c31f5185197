-- Prepare, over all inputs: what it answers, and what the prepared slice holds as it returns.
-- Assumes nothing.
use Rattle.std.specs.Prelude.{List, [], ◌∷◌, ◌++◌, ℕ, ℤ, length, drop}
use Rattle.series.specs.Answers.{Outcome, outcome_of}
use Rattle.ieee.specs.Patterns.{floats, patterns}
use Rattle.series.specs.Refusals.{first_refusal}
use Rattle.series.specs.Rows.{series_checked, row13}
use Rattle.steps.specs.Steps.{prepared_of}
use Rattle.series.specs.Refusals.{Checked}
use Rattle.steps.specs.declared.PreFunction.{PreFunction}

-- rows 1 to 5 and 13, for a prepared slice of room entries
unfoldable pub prepare_checked : List ℤ → List ℕ → ℕ → Checked
prepare_checked ts vs room = first_refusal (series_checked ts vs ∷ row13 (length vs) room ∷ [])

-- the prepared values' patterns first, all else untouched
abbrev pub prepare_of : PreFunction → List ℤ → List ℕ → List ℕ → Outcome (Unit {0}) (List ℕ)
prepare_of pre ts vs old =
    outcome_of (prepare_checked ts vs (length old)) tt (patterns (prepared_of pre ts (floats vs)) ++ drop (length vs) old) old
