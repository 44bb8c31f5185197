-- What no call says of a merged series: that rows 1 to 5 refuse it.
-- Assumes nothing.
use Rattle.std.specs.Prelude.{true, List, ◌⊎◌, ◌≡◌, ℕ, ◌≤◌, ◌<◌, ℤ, Float, length}
use Rattle.config.specs.Settle.{settle_of}
use Rattle.crossings.specs.Crossings.{crossings_of}
use Rattle.crossings.specs.Nearest.{nearest_of}
use Rattle.merge_series.specs.Call.{merge_of, strict_checked}
use Rattle.merge_series.specs.Merge.{Series, together}
use Rattle.prepare.specs.Prepare.{prepare_of}
use Rattle.rollup.specs.declared.handler.RollupHandler.{RollupHandler}
use Rattle.run.specs.Run.{Lent, run_of, settled_run_of}
use Rattle.series.specs.Answers.{Reply}
use Rattle.series.specs.Rows.{max_readings, time_inside}
use Rattle.std.specs.Prelude.{Ok}
use Rattle.settings.specs.declared.RollupConfig.{RollupConfig}
use Rattle.settings.specs.declared.SettledConfig.{SettledConfig}
use Rattle.steps.specs.declared.PreFunction.{PreFunction}

-- accepted, or refused by a row after 5
abbrev pub PastFive : {A : Type 0} → Reply A → Type 0
PastFive a = (a.number ≡ 0) ⊎ (5 < a.number)

-- the two are merged within limit 2, and the other one is no reason to refuse
pub record Mergeable (s other : Series) : Type 0 where
  pub accepted : strict_checked other.times other.values ≡ Ok tt
  pub few : length (together s other) ≤ max_readings
  pub few_other : length (together other s) ≤ max_readings

-- no call gives a series any of 1 to 5, whatever else it is handed; the time that nearest is asked about is no reading of the series
pub record NoneOf1To5 (s : Series) : Type 0 where
  pub by_prepare : (pre : PreFunction) (prepared : List ℕ) → PastFive (prepare_of pre s.times s.values prepared).answer
  pub by_settle : (rc : RollupConfig) → PastFive (settle_of s.times rc)
  pub by_run : (pre : PreFunction) (h : RollupHandler) (rc : RollupConfig) (l : Lent) → PastFive (run_of s.times s.values pre h rc l).answer
  pub by_settled_run : (pre : PreFunction) (h : RollupHandler) (sc : SettledConfig) (l : Lent) → PastFive (settled_run_of s.times s.values pre h sc l).answer
  pub by_crossings : (limit : Float) (indexes : List ℕ) → PastFive (crossings_of s.times s.values limit indexes).answer
  pub by_nearest : (t : ℤ) → time_inside t ≡ true → PastFive (nearest_of s.times t)
  pub by_merge : (other old : Series) → Mergeable s other → PastFive (merge_of s other old).answer
  pub by_merge_second : (other old : Series) → Mergeable s other → PastFive (merge_of other s old).answer
