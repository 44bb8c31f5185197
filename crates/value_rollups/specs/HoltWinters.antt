-- The rollup of holt_winters.rs, double exponential smoothing.
-- Assumes nothing.
use mathlib.Core.List.{List, foldl}
use Rattle.std.specs.Prelude.{Bool, cond, ◌||◌, drop, Float}
use Rattle.std.specs.Float.{nan, binary64}
use Rattle.std.specs.Float.Ieee.{add, sub, mul, le, is_nan}
use Rattle.window.specs.Window.{is_empty, first_of, zero_f, one_f}

-- whether a factor does not stand between 0.0 and 1.0; a NaN is taken to stand there
unfoldable pub out_of_range : Float → Bool
out_of_range f = le f zero_f || le one_f f

-- the level after one more value v, from the level and the trend before it
abbrev pub level : Float → Float × Float → Float → Float
level sf s v = add binary64 (mul binary64 sf v) (mul binary64 (sub binary64 one_f sf) (add binary64 s.0 s.1))

-- the level and the trend after v
abbrev pub smooth : Float → Float → Float × Float → Float → Float × Float
smooth sf tf s v =
    (level sf s v, add binary64 (mul binary64 tf (sub binary64 (level sf s v) s.0)) (mul binary64 (sub binary64 one_f tf) s.1))

-- the level after the values, from s and the trend to the first of them; NaN where there is none
unfoldable pub smooth_from : Float → Float → Float → List Float → Float
smooth_from sf tf s xs = cond (is_empty xs) nan (foldl (smooth sf tf) (s, sub binary64 (first_of xs) s) xs).0

-- the predecessor for an empty window, whatever the factors; NaN for one reading and no predecessor
unfoldable pub holt_winters_of : Float → Float → Float → List Float → Float
holt_winters_of sf tf p xs =
    cond (is_empty xs) p
    (cond (out_of_range sf || out_of_range tf) nan
    (cond (is_nan p) (smooth_from sf tf (first_of xs) (drop 1 xs)) (smooth_from sf tf p xs)))
