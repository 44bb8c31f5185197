-- Where settings are turned away: rows 6 to 11 of docs/REFUSALS.md. Each row is one definition; a call goes through a list of rows. A settled run has a
-- row 8 of its own, only the last part of row 9, and no row 10. Ranges include both ends.
-- Assumes nothing.
use Rattle.std.specs.Prelude.{Bool, ◌||◌, ◌&&◌, [], ◌∷◌, ℕ, ◌^◌, ltb, ℤ, pos, neg_ℤ, ◌+ℤ◌, ◌-ℤ◌}
use Rattle.std.specs.Int.Signed.{lt_z, quot_z}
use Rattle.times.specs.Milli.{time_limit}
use Rattle.times.specs.Grid.{grid_size}
use Rattle.series.specs.Refusals.{refused_if, first_refusal}
use Rattle.series.specs.Refusals.{Checked}
use Rattle.series.specs.declared.refusal.Refusal.TheVariants.{StepOutside, SpanOutside, WindowOutside, SettingOutside, OverPointLimit, TooManyPoints}
use Rattle.settings.specs.declared.RollupConfig.{RollupConfig}
use Rattle.settings.specs.declared.SettledConfig.{SettledConfig}

-- how many output times a grid may have
abbrev pub max_grid_points : ℕ
max_grid_points = 16777216

-- how large a settled window or reach may be
abbrev pub settled_limit : ℕ
settled_limit = 2 ^ 52

-- below lo or above hi
unfoldable pub outside : ℤ → ℤ → ℤ → Bool
outside lo hi x = lt_z x lo || lt_z hi x

abbrev pub row6 : ℤ → Checked
row6 step = refused_if (outside (pos 1) (pos time_limit) step) StepOutside

unfoldable pub span_outside : ℤ → ℤ → Bool
span_outside start end = outside (neg_ℤ (pos time_limit)) (pos time_limit) start || outside (neg_ℤ (pos time_limit)) (pos time_limit) end || lt_z end start

abbrev pub row7 : ℤ → ℤ → Checked
row7 start end = refused_if (span_outside start end) SpanOutside

abbrev pub row8 : ℤ → Checked
row8 window = refused_if (outside (pos 0) (pos time_limit) window) WindowOutside

-- row 8 of a settled run
unfoldable pub settled_outside : ℤ → ℤ → Bool
settled_outside window reach = outside (pos 1) (pos settled_limit) window || outside (pos 1) (pos settled_limit) reach

abbrev pub settled_row8 : ℤ → ℤ → Checked
settled_row8 window reach = refused_if (settled_outside window reach) WindowOutside

-- how large a per-call number may be
abbrev pub max_per_call : ℕ
max_per_call = 65535

abbrev pub per_call_over : ℕ → Bool
per_call_over n = ltb max_per_call n

-- the lookback delta, the staleness interval, the point limit and the per-call number
unfoldable pub setting_outside : ℤ → ℤ → ℤ → ℕ → Bool
setting_outside lookback staleness limit perCall =
    outside (pos 0) (pos time_limit) lookback || outside (pos 0) (pos time_limit) staleness || outside (pos 0) (pos time_limit) limit || per_call_over perCall

abbrev pub row9 : ℤ → ℤ → ℤ → ℕ → Checked
row9 lookback staleness limit perCall = refused_if (setting_outside lookback staleness limit perCall) SettingOutside

-- row 9 of a settled run
abbrev pub settled_row9 : ℕ → Checked
settled_row9 perCall = refused_if (per_call_over perCall) SettingOutside

-- a point limit above 0, and floor((end − start) / (step + 1)) above it
unfoldable pub over_point_limit : ℤ → ℤ → ℤ → ℤ → Bool
over_point_limit start end step limit = lt_z (pos 0) limit && lt_z limit (quot_z (end -ℤ start) (step +ℤ pos 1))

abbrev pub row10 : ℤ → ℤ → ℤ → ℤ → Checked
row10 start end step limit = refused_if (over_point_limit start end step limit) OverPointLimit

abbrev pub row11 : ℤ → ℤ → ℤ → Checked
row11 start end step = refused_if (ltb max_grid_points (grid_size start end step)) TooManyPoints

-- rows 6 and 7, on the grid's start, end and step
abbrev pub span_checked : ℤ → ℤ → ℤ → Checked
span_checked start end step = first_refusal (row6 step ∷ row7 start end ∷ [])

-- rows 6 to 9, which are on one setting or two
abbrev pub ranges_checked : RollupConfig → Checked
ranges_checked rc =
    first_refusal
    (row6 rc.step
    ∷ row7 rc.start rc.end
    ∷ row8 rc.window
    ∷ row9 rc.lookback_delta rc.min_staleness_interval rc.max_points_per_series rc.samples_scanned_per_call
    ∷ [])

-- rows 6 to 11
unfoldable pub settings_checked : RollupConfig → Checked
settings_checked rc =
    first_refusal
    (ranges_checked rc ∷ row10 rc.start rc.end rc.step rc.max_points_per_series ∷ row11 rc.start rc.end rc.step ∷ [])

-- rows 6 to 11 of a settled run
unfoldable pub settled_settings : SettledConfig → Checked
settled_settings sc =
    first_refusal
    (row6 sc.step
    ∷ row7 sc.start sc.end
    ∷ settled_row8 sc.window sc.reach
    ∷ settled_row9 sc.samples_scanned_per_call
    ∷ row11 sc.start sc.end sc.step
    ∷ [])
