-- The rollups of deriv.rs.
-- Assumes nothing.
use Rattle.std.specs.Prelude.{List, cond, ℕ, ◌-◌, ltb, eqb, length, get_or, ℤ, pos, ◌-ℤ◌, Float}
use Rattle.std.specs.Int.Signed.{lt_z}
use Rattle.std.specs.Float.{nan, binary64}
use Rattle.std.specs.Float.Ieee.{sub, div, is_nan}
use Rattle.regression.specs.Regression.{regression_of}
use Rattle.window.specs.declared.types.RollupFuncArg.{RollupFuncArg}
use Rattle.ieee.specs.Value.{seconds_of}
use Rattle.window.specs.Window.{is_empty, first_or, last_or, first_of, last_of, up_to_last, zero_f}

-- the change a second from the value v at the time t to the window's last reading
unfoldable pub slope_from : Float → ℤ → List Float → List ℤ → Float
slope_from v t xs ts = div binary64 (sub binary64 (last_of xs) v) (seconds_of (last_or (pos 0) ts -ℤ t))

-- the slope of the regression's line
unfoldable pub deriv_slow_of : RollupFuncArg → List Float → List ℤ → Float
deriv_slow_of r xs ts = (regression_of xs ts r.curr_timestamp).k

-- from the predecessor, or else from the window's first reading
unfoldable pub deriv_fast_of : RollupFuncArg → List Float → List ℤ → Float
deriv_fast_of r xs ts =
    cond (is_nan r.prev_value) (cond (ltb (length xs) 2) nan (slope_from (first_of xs) (first_or (pos 0) ts) xs ts))
    (cond (is_empty xs) zero_f (slope_from r.prev_value r.prev_timestamp xs ts))

-- how many readings stand up to the last one before the window's last time
abbrev pub earlier : List ℤ → ℕ
earlier ts = up_to_last (λ t. lt_z t (last_or (pos 0) ts)) ts

-- from the last reading before the window's last time, or else from the predecessor
unfoldable pub ideriv_of : RollupFuncArg → List Float → List ℤ → Float
ideriv_of r xs ts =
    cond (is_empty xs) nan
    (cond (eqb (earlier ts) 0)
    (cond (is_nan r.prev_value) (cond (ltb (length xs) 2) nan zero_f) (slope_from r.prev_value r.prev_timestamp xs ts))
    (slope_from (get_or xs (earlier ts - 1) nan) (get_or ts (earlier ts - 1) (pos 0)) xs ts))
