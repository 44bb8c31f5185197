-- Settle, over all inputs: what times and settings settle to, or why they are refused.
-- Assumes nothing.
use Rattle.std.specs.Prelude.{List, [], ◌∷◌, ℕ, ℤ, pos, nat_abs}
use Rattle.times.specs.Grid.{grid_size}
use Rattle.series.specs.Answers.{Reply, reply_of}
use Rattle.series.specs.Refusals.{first_refusal}
use Rattle.series.specs.Rows.{times_checked}
use Rattle.settings.specs.declared.RollupConfig.{RollupConfig}
use Rattle.config.specs.declared.settle.Settlement.{Settlement}
use Rattle.config.specs.Estimate.{estimate_of}
use Rattle.config.specs.Reach.{reach_of, bounded_reach, window_of}
use Rattle.settings.specs.Rows.{settings_checked}

-- the reach of the estimate, bounded by the settings
unfoldable pub settled_reach_of : List ℤ → RollupConfig → ℕ
settled_reach_of ts rc = bounded_reach (nat_abs rc.lookback_delta) (nat_abs rc.min_staleness_interval) (reach_of (estimate_of ts))

unfoldable pub settled_window_of : List ℤ → RollupConfig → ℕ
settled_window_of ts rc =
    window_of (nat_abs rc.window) (nat_abs rc.step) rc.may_adjust_window rc.is_default_rollup (nat_abs rc.lookback_delta) (settled_reach_of ts rc)

-- what times and settings that no row refuses settle to
abbrev pub settlement : List ℤ → RollupConfig → Settlement
settlement ts rc = record { window = pos (settled_window_of ts rc); reach = pos (settled_reach_of ts rc); points = grid_size rc.start rc.end rc.step }

-- rows 2 to 4 and 6 to 11, lowest number first
unfoldable pub settle_of : List ℤ → RollupConfig → Reply Settlement
settle_of ts rc = reply_of (first_refusal (times_checked ts ∷ settings_checked rc ∷ [])) (settlement ts rc)
