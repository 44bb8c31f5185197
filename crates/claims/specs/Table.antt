-- The cases that the definitions were written from, as one table: each a list that the definitions compute, and the list that is stated. Figures are their 64 bits.
-- Assumes nothing.
use Rattle.std.specs.Prelude.{List, [], ◌∷◌, map, ℕ, suc, ◌*◌, pos, nat_abs, Float}
use Rattle.std.specs.Float.{binary64}
use Rattle.std.specs.Float.Ieee.{neg, of_bits, of_int, to_bits}
use Rattle.config.specs.Estimate.{estimate_of}
use Rattle.config.specs.Reach.{reach_of}
use Rattle.rollup.specs.declared.handler.RollupHandler.{RollupHandler}
use Rattle.rollup.specs.declared.handler.RollupHandler.TheVariants.{ChangesPrometheus, Close, Delta, HoltWinters, Lag, Max, Min, ModeOverTime, Quantile, Stddev}
use Rattle.ieee.specs.Patterns.{patterns}
use Rattle.steps.specs.Steps.{prepared_of}
use Rattle.steps.specs.declared.PreFunction.{PreFunction}
use Rattle.steps.specs.declared.PreFunction.TheVariants.{Resets, Delta as Deltas, Deriv, Intervals}
use Rattle.outputs.specs.Figures.{answer, count_of}
use Rattle.record.specs.Record.{Reading, reading, record_at, window}

pub record Case : Type 0 where
  pub computed : List ℕ
  pub stated : List ℕ

-- ---- values and series

abbrev pub num : ℕ → Float
num k = of_int binary64 (pos k)

abbrev half : Float
half = of_bits binary64 0x3FE0_0000_0000_0000

-- 1 + 2^−40 and 1 + 2^−39
abbrev one_and40 : Float
one_and40 = of_bits binary64 0x3FF0_0000_0000_1000

abbrev one_and39 : Float
one_and39 = of_bits binary64 0x3FF0_0000_0000_2000

-- readings at k seconds and each second after
unfoldable pub from_second : ℕ → List Float → List Reading
from_second k [] = []
from_second k (x ∷ xs) = reading (pos (1000 * k)) (to_bits binary64 x) ∷ from_second (suc k) xs

-- readings at 1000, 2000 and so on
abbrev series : List Float → List Reading
series xs = from_second 1 xs

-- a rollup of a series at t, with a window and a reach of 5000
abbrev pub rolled : RollupHandler → List Float → ℕ → ℕ → List ℕ
rolled h xs w t = answer h (record_at (series xs) (pos w) (pos 5000) (pos t)) ∷ []

-- a rollup of values that are all in the window, with no other reading
abbrev over_all : RollupHandler → List Float → List ℕ
over_all h xs = rolled h xs 9000 9000

abbrev pub step : PreFunction → List ℕ → List Float → List ℕ
step pre ts xs = patterns (prepared_of pre (map pos ts) xs)

-- the times of the readings in a window of 1000
abbrev held : List Float → ℕ → List ℕ
held xs t = map (λ (x : Reading). nat_abs x.time) (window (series xs) (pos 1000) (pos t))

-- ---- the table

abbrev pub table : List Case
table =
    -- quantile 0.5 of 1, 2 is 1.5
    record { computed = over_all (Quantile half) (num 1 ∷ num 2 ∷ []); stated = 0x3FF8_0000_0000_0000 ∷ [] }
    -- stddev of 1, 3 is 1
    ∷ record { computed = over_all Stddev (num 1 ∷ num 3 ∷ []); stated = patterns (num 1 ∷ []) }
    -- the mode with predecessor 7 and window [1] is 7
    ∷ record { computed = rolled ModeOverTime (num 7 ∷ num 1 ∷ []) 1000 2000; stated = patterns (num 7 ∷ []) }
    -- delta: 5, 7, 4 gives 2, −3, −3
    ∷ record { computed = step Deltas (1 ∷ 2 ∷ 3 ∷ []) (num 5 ∷ num 7 ∷ num 4 ∷ []); stated = patterns (num 2 ∷ neg (num 3) ∷ neg (num 3) ∷ []) }
    -- deriv: times 0, 2000, 3000 with 1, 5, 2 gives 2, −3, −3
    ∷ record { computed = step Deriv (0 ∷ 2000 ∷ 3000 ∷ []) (num 1 ∷ num 5 ∷ num 2 ∷ []); stated = patterns (num 2 ∷ neg (num 3) ∷ neg (num 3) ∷ []) }
    -- rollup_delta of one value with no other reading: 5 gives 5, 10 gives 0
    ∷ record { computed = over_all Delta (num 5 ∷ []); stated = patterns (num 5 ∷ []) }
    ∷ record { computed = over_all Delta (num 10 ∷ []); stated = patterns (num 0 ∷ []) }
    -- t = 3000, window 3000, readings 5, 6, 7 at 1000, 2000, 3000, no predecessor: close is 5
    ∷ record { computed = rolled Close (num 5 ∷ num 6 ∷ num 7 ∷ []) 3000 3000; stated = patterns (num 5 ∷ []) }
    -- Holt-Winters of one reading and no predecessor, with factors in range, is NaN
    ∷ record { computed = over_all (HoltWinters half half) (num 5 ∷ []); stated = 0x7FF8_0000_0000_0000 ∷ [] }
    -- and so it is with either factor out of range, at 0 or at 1
    ∷ record { computed = over_all (HoltWinters (num 0) half) (num 5 ∷ []); stated = 0x7FF8_0000_0000_0000 ∷ [] }
    ∷ record { computed = over_all (HoltWinters (num 1) half) (num 5 ∷ []); stated = 0x7FF8_0000_0000_0000 ∷ [] }
    ∷ record { computed = over_all (HoltWinters half (num 0)) (num 5 ∷ []); stated = 0x7FF8_0000_0000_0000 ∷ [] }
    ∷ record { computed = over_all (HoltWinters half (num 1)) (num 5 ∷ []); stated = 0x7FF8_0000_0000_0000 ∷ [] }
    -- of 0.0, −0.0 the maximum is −0.0 and the minimum 0.0
    ∷ record { computed = over_all Max (num 0 ∷ neg (num 0) ∷ []); stated = 0x8000_0000_0000_0000 ∷ [] }
    ∷ record { computed = over_all Min (num 0 ∷ neg (num 0) ∷ []); stated = 0 ∷ [] }
    -- changes_prometheus of 1, 1 + 2^−40 is 0; of 1, 1 + 2^−39 is 1
    ∷ record { computed = over_all ChangesPrometheus (num 1 ∷ one_and40 ∷ []); stated = patterns (num 0 ∷ []) }
    ∷ record { computed = over_all ChangesPrometheus (num 1 ∷ one_and39 ∷ []); stated = patterns (num 1 ∷ []) }
    -- resets: 10, 2, 3 gives 10, 12, 25; 80, 71 gives 80, 80; 80, 70 gives 80, 150
    ∷ record { computed = step Resets (1 ∷ 2 ∷ 3 ∷ []) (num 10 ∷ num 2 ∷ num 3 ∷ []); stated = patterns (num 10 ∷ num 12 ∷ num 25 ∷ []) }
    ∷ record { computed = step Resets (1 ∷ 2 ∷ []) (num 80 ∷ num 71 ∷ []); stated = patterns (num 80 ∷ num 80 ∷ []) }
    ∷ record { computed = step Resets (1 ∷ 2 ∷ []) (num 80 ∷ num 70 ∷ []); stated = patterns (num 80 ∷ num 150 ∷ []) }
    -- intervals: 1500, 2999, 4000 gives 1, 1, 2; a lone reading gives NaN
    ∷ record { computed = step Intervals (1500 ∷ 2999 ∷ 4000 ∷ []) (num 0 ∷ num 0 ∷ num 0 ∷ []); stated = patterns (num 1 ∷ num 1 ∷ num 2 ∷ []) }
    ∷ record { computed = step Intervals (1500 ∷ []) (num 0 ∷ []); stated = 0x7FF8_0000_0000_0000 ∷ [] }
    -- times 0, 1000, 3000: estimate 1600, reach 8000
    ∷ record { computed = estimate_of (pos 0 ∷ pos 1000 ∷ pos 3000 ∷ []) ∷ []; stated = 1600 ∷ [] }
    ∷ record { computed = reach_of (estimate_of (pos 0 ∷ pos 1000 ∷ pos 3000 ∷ [])) ∷ []; stated = 8000 ∷ [] }
    -- times 1000, 2000, 3000, window 1000: t = 2000 holds only 2000; t = 4000 is empty and lag is NaN
    ∷ record { computed = held (num 1 ∷ num 2 ∷ num 3 ∷ []) 2000; stated = 2000 ∷ [] }
    ∷ record { computed = held (num 1 ∷ num 2 ∷ num 3 ∷ []) 4000; stated = [] }
    ∷ record { computed = rolled Lag (num 1 ∷ num 2 ∷ num 3 ∷ []) 1000 4000; stated = 0x7FF8_0000_0000_0000 ∷ [] }
    -- 3 samples, 2 outputs, per-call 2: the count is 7
    ∷ record { computed = count_of 2 (series (num 1 ∷ num 2 ∷ num 3 ∷ [])) (pos 1000) (pos 2000 ∷ pos 3000 ∷ []) ∷ []; stated = 7 ∷ [] }
    ∷ []
