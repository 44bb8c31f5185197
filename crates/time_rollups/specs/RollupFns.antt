-- The rollups of rollup_fns.rs that read a window's times, each as the Rust's operations in source order. `p` is the
-- predecessor's value, NaN where there is none, `xs` the window's values and `ts` its times.
-- Assumes nothing.
use mathlib.Core.List.{List, foldl}
use Rattle.std.specs.Prelude.{Option, Some, None, Bool, true, false, cond, ◌&&◌, ◌||◌, ℕ, ◌-◌, ltb, eqb, length, take, get_or, ℤ, pos, ◌-ℤ◌, Float}
use Rattle.std.specs.Float.{nan, binary64}
use Rattle.std.specs.Float.Ieee.{add, sub, mul, div, lt, le, eq, ne, is_nan}
use Rattle.math.specs.Deviation.{stddev_of}
use Rattle.regression.specs.Regression.{regression_of}
use Rattle.regression.specs.declared.Line.{Line}
use Rattle.window.specs.declared.types.RollupFuncArg.{RollupFuncArg}
use Rattle.ieee.specs.Value.{seconds_of}
use Rattle.window.specs.Window.{readings, is_empty, first_or, last_or, first_of, last_of, up_to_last, zero_f, count_f}
use Rattle.value_rollups.specs.RollupFns.{avg_of}

-- whether v is no less than m, or, where the way is down, no greater
abbrev pub at_least : Bool → Float → Float → Bool
at_least down m v = cond down (le v m) (le m v)

-- the later of equal readings
abbrev pub latest : Bool → Float × ℤ → Float × ℤ → Float × ℤ
latest down s x = cond (at_least down s.0 x.0) x s

-- the last time of the furthest value that way, in seconds
unfoldable pub extreme_time : Bool → List Float → List ℤ → Float
extreme_time down xs ts = cond (is_empty xs) nan (seconds_of (foldl (latest down) (first_of xs, first_or (pos 0) ts) (readings xs ts)).1)

-- the last time of the minimum
abbrev pub tmin_of : List Float → List ℤ → Float
tmin_of xs ts = extreme_time true xs ts

-- the last time of the maximum
abbrev pub tmax_of : List Float → List ℤ → Float
tmax_of xs ts = extreme_time false xs ts

-- a time in seconds, NaN where there is none
abbrev pub seconds_or_nan : Option ℤ → Float
seconds_or_nan (Some t) = seconds_of t
seconds_or_nan None = nan

-- the first time, in seconds
unfoldable pub tfirst_of : List ℤ → Float
tfirst_of ts = cond (is_empty ts) nan (seconds_of (first_or (pos 0) ts))

-- the last time, in seconds
unfoldable pub tlast_of : List ℤ → Float
tlast_of ts = cond (is_empty ts) nan (seconds_of (last_or (pos 0) ts))

-- how many values stand up to the last one that differs from the window's last value
abbrev pub changed_up_to : List Float → ℕ
changed_up_to xs = up_to_last (λ x. ne x (last_of xs)) (take (length xs - 1) xs)

-- the time after that one; where none differs, the window's first time unless the predecessor equals them, and then NaN
unfoldable pub tlast_change_of : Float → List Float → List ℤ → Float
tlast_change_of p xs ts =
    cond (is_empty xs) nan (cond (eqb (changed_up_to xs) 0 && eq p (last_of xs)) nan (seconds_of (get_or ts (changed_up_to xs) (pos 0))))

-- the seconds from the predecessor, or else from the first reading, to the last
unfoldable pub lifetime_of : RollupFuncArg → List ℤ → Float
lifetime_of r ts =
    cond (is_nan r.prev_value) (cond (ltb (length ts) 2) nan (seconds_of (last_or (pos 0) ts -ℤ first_or (pos 0) ts)))
    (cond (is_empty ts) nan (seconds_of (last_or (pos 0) ts -ℤ r.prev_timestamp)))

-- the seconds from the last reading, or else from the predecessor, to the output time
unfoldable pub lag_of : RollupFuncArg → List ℤ → Float
lag_of r ts =
    cond (is_empty ts) (cond (is_nan r.prev_value) nan (seconds_of (r.curr_timestamp -ℤ r.prev_timestamp)))
    (seconds_of (r.curr_timestamp -ℤ last_or (pos 0) ts))

-- the lifetime by the number of intervals in it
unfoldable pub scrape_interval_of : RollupFuncArg → List ℤ → Float
scrape_interval_of r ts = div binary64 (lifetime_of r ts) (count_f (cond (is_nan r.prev_value) (length ts - 1) (length ts)))

-- d in units of the deviation, 0.0 where d is 0.0
unfoldable pub zscore_from : Float → Float → Float
zscore_from d dev = cond (eq d zero_f) zero_f (div binary64 d dev)

-- how far the last value lies from the average, in standard deviations; NaN where the last reading is older than the average interval
unfoldable pub zscore_over_time_of : RollupFuncArg → List Float → List ℤ → Float
zscore_over_time_of r xs ts =
    cond (is_nan (scrape_interval_of r ts) || is_nan (lag_of r ts) || lt (scrape_interval_of r ts) (lag_of r ts)) nan
    (zscore_from (sub binary64 (last_of xs) (avg_of xs)) (stddev_of xs))

-- the value of the regression's line `secs` seconds after the output time
unfoldable pub predict_from : Line → Float → Float
predict_from line secs = cond (is_nan line.v) nan (add binary64 line.v (mul binary64 line.k secs))

-- the line is that of the window
unfoldable pub predict_linear_of : RollupFuncArg → List Float → List ℤ → Float → Float
predict_linear_of r xs ts secs = predict_from (regression_of xs ts r.curr_timestamp) secs
