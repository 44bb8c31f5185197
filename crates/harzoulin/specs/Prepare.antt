-- `harzoulin_prepare`: prepare, with its step by number.
-- Assumes nothing.
use Rattle.std.specs.Prelude.{ℕ, List, ℤ, Option, Some, None}
use Rattle.series.specs.Answers.{Outcome}
use Rattle.prepare.specs.Prepare.{prepare_of}
use Rattle.harzoulin.specs.Exported.{unnamed}
use Rattle.steps.specs.declared.PreFunction.{PreFunction}

abbrev pub numbered_prepare : Option PreFunction → List ℤ → List ℕ → List ℕ → Outcome (Unit {0}) (List ℕ)
numbered_prepare (Some pre) ts vs old = prepare_of pre ts vs old
numbered_prepare None ts vs old = unnamed old
