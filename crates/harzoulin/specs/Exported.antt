-- What a call through C gives back: the number that it returns, the index, the values behind its other pointers, and the lent slices. Each exported
-- function promises one equation with this record.
-- Assumes nothing.
use Rattle.std.specs.Prelude.{ℕ}
use Rattle.std.proofs.Math.Option.{get_or}
use Rattle.series.specs.Answers.{Outcome, outcome, refuses}
use Rattle.series.specs.declared.refusal.Refusal.TheVariants.{UnknownNumber}

pub record Exported (A L : Type 0) : Type 0 where
  pub number : ℕ
  pub index : ℕ
  pub values : A
  pub slices : L

abbrev pub exported : {A L : Type 0} → ℕ → ℕ → A → L → Exported A L
exported k i x l = record { number = k; index = i; values = x; slices = l }

-- an outcome, where the values behind the pointers were old: they are set on acceptance only
abbrev pub crossed : {A L : Type 0} → Outcome A L → A → Exported A L
crossed o old = exported o.answer.number o.answer.index (get_or o.answer.values old) o.slices

-- a number that names no step or no rollup is refused before all else
abbrev pub unnamed : {A L : Type 0} → L → Outcome A L
unnamed l = outcome (refuses UnknownNumber) l
