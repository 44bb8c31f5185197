-- `harzoulin_run` and `harzoulin_settled_run`: run and settled run, with step and rollup by number and each setting as an argument.
-- Assumes nothing.
use Rattle.std.specs.Prelude.{ℕ, List, ℤ, Option, Some, None}
use Rattle.settings.specs.declared.RollupConfig.{RollupConfig}
use Rattle.series.specs.Answers.{Outcome}
use Rattle.run.specs.Run.{Lent, run_of, settled_run_of}
use Rattle.settings.specs.declared.SettledConfig.{SettledConfig}
use Rattle.harzoulin.specs.Exported.{unnamed}
use Rattle.steps.specs.declared.PreFunction.{PreFunction}
use Rattle.rollup.specs.declared.handler.RollupHandler.{RollupHandler}

-- a step and a rollup, where both numbers name one
abbrev pub Choice : Type 0
Choice = Option (PreFunction × RollupHandler)

abbrev pub choice_of : Option PreFunction → Option RollupHandler → Choice
choice_of (Some pre) (Some h) = Some (pre, h)
choice_of (Some pre) None = None
choice_of None x = None

abbrev pub numbered_run : Choice → List ℤ → List ℕ → RollupConfig → Lent → Outcome ℕ Lent
numbered_run (Some (pre, h)) ts vs rc l = run_of ts vs pre h rc l
numbered_run None ts vs rc l = unnamed l

abbrev pub numbered_settled_run : Choice → List ℤ → List ℕ → SettledConfig → Lent → Outcome ℕ Lent
numbered_settled_run (Some (pre, h)) ts vs sc l = settled_run_of ts vs pre h sc l
numbered_settled_run None ts vs sc l = unnamed l

-- the settings that the numbers are
abbrev pub settled_config_of : ℤ → ℤ → ℤ → ℤ → ℤ → ℕ → SettledConfig
settled_config_of start end step window reach per_call =
    record { start = start; end = end; step = step; window = window; reach = reach; samples_scanned_per_call = per_call }
