-- The words of a case that are settings, and those that are what they settle to.
-- Assumes nothing.
use Rattle.std.specs.Prelude.{List, ◌≡◌, ℕ, ◌+◌, ◌*◌, eqb, ℤ}
use Rattle.std.specs.Int.{w64}
use Rattle.std.proofs.Common.{of_z, to_z}
use Rattle.config.specs.declared.settle.Settlement.{Settlement}
use Rattle.settings.specs.declared.RollupConfig.{RollupConfig}
use Rattle.vectors.specs.Words.{word_at}

-- the k-th word from a byte on, as a signed number
abbrev pub number_at : List ℕ → ℕ → ℕ → ℤ
number_at text at k = to_z w64 (word_at text (at + k * 17))

-- the settings have the ten words from a byte on; of the two tests the word 1 says that they hold
pub record StoredSettings (text : List ℕ) (at : ℕ) (rc : RollupConfig) : Type 0 where
  pub start : rc.start ≡ number_at text at 0
  pub end : rc.end ≡ number_at text at 1
  pub step : rc.step ≡ number_at text at 2
  pub window : rc.window ≡ number_at text at 3
  pub adjusting : rc.may_adjust_window ≡ eqb (of_z w64 (number_at text at 4)) 1
  pub default : rc.is_default_rollup ≡ eqb (of_z w64 (number_at text at 5)) 1
  pub lookback : rc.lookback_delta ≡ number_at text at 6
  pub staleness : rc.min_staleness_interval ≡ number_at text at 7
  pub limit : rc.max_points_per_series ≡ number_at text at 8
  pub per_call : rc.samples_scanned_per_call ≡ word_at text (at + 9 * 17)

-- what settings settle to has the three words from a byte on
pub record StoredSettlement (text : List ℕ) (at : ℕ) (s : Settlement) : Type 0 where
  pub window : s.window ≡ number_at text at 0
  pub reach : s.reach ≡ number_at text at 1
  pub points : s.points ≡ word_at text (at + 2 * 17)
