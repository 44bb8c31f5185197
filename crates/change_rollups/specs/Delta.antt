-- The rollups of delta.rs.
-- Assumes nothing.
use Rattle.std.specs.Prelude.{List, Bool, cond, ◌-◌, ltb, eqb, length, drop, get_or, Float}
use Rattle.std.specs.Float.{nan, binary64}
use Rattle.std.specs.Float.Ieee.{add, sub, mul, lt, is_nan, of_bits}
use Rattle.ieee.specs.Value.{abs_of}
use Rattle.window.specs.declared.types.RollupFuncArg.{RollupFuncArg}
use Rattle.window.specs.Window.{is_empty, first_of, last_of, zero_f, one_f}

-- the last value less q, 0.0 for an empty list
unfoldable pub delta_from : Float → List Float → Float
delta_from q xs = cond (is_empty xs) zero_f (sub binary64 (last_of xs) q)

-- the step from the first value to the second, or to the one after the window; 0.0 where there is neither
unfoldable pub first_step : Float → List Float → Float
first_step next xs =
    cond (ltb 1 (length xs)) (sub binary64 (get_or xs 1 nan) (first_of xs))
    (cond (is_nan next) zero_f (sub binary64 next (first_of xs)))

-- a counter that starts in the window started at 0.0 where its first value is below 10 × (|first step| + 1), else at its first value
unfoldable pub starts_low : Float → List Float → Bool
starts_low next xs = lt (abs_of (first_of xs)) (mul binary64 (of_bits binary64 0x4024000000000000) (add binary64 (abs_of (first_step next xs)) one_f))

-- from the predecessor; without one, from the real previous value, or else from where the counter is taken to start
unfoldable pub delta_of : RollupFuncArg → List Float → Float
delta_of r xs =
    cond (is_nan r.prev_value)
    (cond (is_empty xs) nan
    (cond (is_nan r.real_prev_value)
    (cond (starts_low r.real_next_value xs) (delta_from zero_f xs) (delta_from (first_of xs) (drop 1 xs)))
    (sub binary64 (last_of xs) r.real_prev_value)))
    (delta_from r.prev_value xs)

-- the last value less the first
unfoldable pub delta_prometheus_of : List Float → Float
delta_prometheus_of xs = cond (ltb (length xs) 2) nan (sub binary64 (last_of xs) (first_of xs))

-- the last step; of one value the step from the predecessor, or the value itself
unfoldable pub idelta_of : Float → List Float → Float
idelta_of p xs =
    cond (is_empty xs) (cond (is_nan p) nan zero_f)
    (cond (eqb (length xs) 1) (cond (is_nan p) (last_of xs) (sub binary64 (last_of xs) p)) (sub binary64 (last_of xs) (get_or xs (length xs - 2) nan)))
