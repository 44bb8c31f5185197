-- `harzoulin_nearest`: nearest, with its answer behind two pointers. `harzoulin_crossings` is crossings as it stands.
-- Assumes nothing.
use Rattle.std.specs.Prelude.{ℕ, List, ℤ, Option, Some, None}
use Rattle.std.proofs.Math.Option.{Option as Given, none, some}
use Rattle.crossings.specs.Nearest.{nearest_of}
use Rattle.series.specs.Answers.{Outcome, Reply, outcome}

-- the values that stand behind the two pointers
pub record Placed : Type 0 where
  pub found : ℕ
  pub nearest : ℕ

abbrev pub placed : ℕ → ℕ → Placed
placed f i = record { found = f; nearest = i }

-- 1 and the index of a reading, or 0 twice where there is none
abbrev pub placed_at : Given (Option ℕ) → Given Placed
placed_at (some (Some i)) = some (placed 1 i)
placed_at (some None) = some (placed 0 0)
placed_at none = none

-- it is lent no slice
abbrev pub placed_outcome : Reply (Option ℕ) → Outcome Placed (Unit {0})
placed_outcome a = outcome (record { number = a.number; index = a.index; values = placed_at a.values }) tt

abbrev pub nearest_outcome : List ℤ → ℤ → Outcome Placed (Unit {0})
nearest_outcome ts t = placed_outcome (nearest_of ts t)
