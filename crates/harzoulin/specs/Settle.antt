-- `harzoulin_settle`: settle, with each setting as an argument and each value of the answer behind a pointer.
-- Assumes nothing.
use Rattle.std.specs.Prelude.{ℕ, Bool, List, ℤ}
use Rattle.config.specs.Settle.{settle_of}
use Rattle.config.specs.declared.settle.Settlement.{Settlement}
use Rattle.settings.specs.declared.RollupConfig.{RollupConfig}
use Rattle.series.specs.Answers.{Outcome, outcome}

-- the settings that the numbers are
abbrev pub config_of : ℤ → ℤ → ℤ → ℤ → Bool → Bool → ℤ → ℤ → ℤ → ℕ → RollupConfig
config_of start end step window adjust default lookback staleness limit per_call = record {
  start = start;
  end = end;
  step = step;
  window = window;
  may_adjust_window = adjust;
  is_default_rollup = default;
  lookback_delta = lookback;
  min_staleness_interval = staleness;
  max_points_per_series = limit;
  samples_scanned_per_call = per_call;
}

-- the values that stand behind the three pointers
abbrev pub settled_to : ℤ → ℤ → ℕ → Settlement
settled_to w r n = record { window = w; reach = r; points = n }

-- it is lent no slice
abbrev pub settle_outcome : List ℤ → RollupConfig → Outcome Settlement (Unit {0})
settle_outcome ts rc = outcome (settle_of ts rc) tt
