-- The rollups of rollup_fns.rs that answer from a window's values `xs`, each as the Rust's operations in source order.
-- Assumes nothing.
use mathlib.Core.List.{List, foldl}
use Rattle.std.specs.Prelude.{true, false, cond, ℕ, ◌+◌, length, drop, Float}
use Rattle.std.specs.Float.{nan, binary64}
use Rattle.std.specs.Float.Ieee.{add, sub, mul, div, lt, eq}
use Rattle.ieee.specs.Mark.{is_mark}
use Rattle.times.specs.Readings.{filter}
use Rattle.order.specs.Order.{sorted}
use Rattle.order.specs.declared.Order.TheVariants.{Total}
use Rattle.window.specs.declared.types.RollupFuncArg.{RollupFuncArg}
use Rattle.ieee.specs.Value.{seconds_of}
use Rattle.window.specs.Window.{is_empty, first_of, further, zero_f, one_f, count_f}

-- the values added up in order, from +0.0, also for avg and rate_over_sum
unfoldable pub total_of : List Float → Float
total_of xs = foldl (add binary64) zero_f xs

-- the sum, NaN for an empty window
unfoldable pub sum_of : List Float → Float
sum_of xs = cond (is_empty xs) nan (total_of xs)

-- the sum by the count
unfoldable pub avg_of : List Float → Float
avg_of xs = cond (is_empty xs) nan (div binary64 (total_of xs) (count_f (length xs)))

-- the sum by the window's length in seconds
unfoldable pub rate_over_sum_of : RollupFuncArg → List Float → Float
rate_over_sum_of r xs = cond (is_empty xs) nan (div binary64 (total_of xs) (seconds_of r.window))

-- s and the square of v
abbrev pub add_square : Float → Float → Float
add_square s v = add binary64 s (mul binary64 v v)

-- the sum of the squares
unfoldable pub sum2_of : List Float → Float
sum2_of xs = cond (is_empty xs) nan (foldl add_square zero_f xs)

-- the minimum is the first of equals
unfoldable pub min_of : List Float → Float
min_of xs = cond (is_empty xs) nan (foldl (further true) (first_of xs) xs)

-- the greater of two, v where they are equal
abbrev pub no_lesser : Float → Float → Float
no_lesser m v = cond (lt v m) m v

-- the maximum is the last of equals
unfoldable pub max_of : List Float → Float
max_of xs = cond (is_empty xs) nan (foldl no_lesser (first_of xs) (drop 1 xs))

-- the greatest value less the least
unfoldable pub range_of : List Float → Float
range_of xs = cond (is_empty xs) nan (sub binary64 (foldl (further false) (first_of xs) xs) (foldl (further true) (first_of xs) xs))

-- 1.0 for an empty window
unfoldable pub absent_of : List Float → Float
absent_of xs = cond (is_empty xs) one_f nan

-- 1.0 for a window that is not empty
unfoldable pub present_of : List Float → Float
present_of xs = cond (is_empty xs) nan one_f

-- how many values there are
unfoldable pub count_of : List Float → Float
count_of xs = cond (is_empty xs) nan (count_f (length xs))

-- how many values are staleness marks, told by their bits
unfoldable pub stale_samples_of : List ℕ → Float
stale_samples_of bs = cond (is_empty bs) nan (count_f (length (filter is_mark bs)))

-- a value that equals the last one kept is dropped, as `dedup` does; how many were kept
abbrev pub dedup : Float × ℕ → Float → Float × ℕ
dedup s v = cond (eq v s.0) s (v, s.1 + 1)

-- how many values are kept of sorted ones
unfoldable pub distinct_from : List Float → ℕ
distinct_from xs = (foldl dedup (first_of xs, 1) (drop 1 xs)).1

-- the values sorted by `total_cmp`, equals dropped
unfoldable pub distinct_of : List Float → Float
distinct_of xs = cond (is_empty xs) nan (count_f (distinct_from (sorted Total xs)))
