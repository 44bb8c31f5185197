-- The cases that were stated for what goes beyond the Rust, as one table: each a list that the definitions compute, and the list that is stated, as in `Table`.
-- Assumes nothing.
use Rattle.std.specs.Prelude.{List, [], ◌∷◌, ◌++◌, map, ℕ, pos, negsuc, nat_abs, Float}
use Rattle.std.specs.Float.{binary64}
use Rattle.std.specs.Float.Ieee.{neg, to_bits}
use Rattle.ieee.specs.Patterns.{patterns}
use Rattle.series.specs.Answers.{reply_of}
use Rattle.series.specs.Refusals.{Checked}
use Rattle.series.specs.Rows.{series_checked, times_checked}
use Rattle.series.specs.Series.{Series}
use Rattle.ieee.specs.Mark.{mark}
use Rattle.marks.specs.Marks.{marked_checked, remaining_of}
use Rattle.run.specs.Run.{row19}
use Rattle.merge_series.specs.Call.{strict_checked}
use Rattle.config.specs.Estimate.{estimate_of}
use Rattle.steps.specs.declared.PreFunction.TheVariants.{Deriv, None, Resets, ResetsOnce}
use Rattle.rollup.specs.declared.handler.RollupHandler.{RollupHandler}
use Rattle.rollup.specs.declared.handler.RollupHandler.TheVariants.{Count, Default, Delta, DerivFast, First, Ideriv, StaleSamples, UntilNext}
use Rattle.outputs.specs.Figures.{answer}
use Rattle.record.specs.Record.{Record, readings, record_at}
use Rattle.claims.specs.Table.{Case, from_second, num, rolled, step}

-- the record at t of values at so many milliseconds, with a window of a second and a reach of five
abbrev seen : List ℕ → List Float → ℕ → Record
seen ts xs t = record_at (readings (map pos ts) (patterns xs)) (pos 1000) (pos 5000) (pos t)

-- a rollup's figure there
abbrev figure : RollupHandler → List ℕ → List Float → ℕ → List ℕ
figure h ts xs t = answer h (seen ts xs t) ∷ []

-- what rows answer, in numbers: 0 and 0, or a refusal's number and index
abbrev told : Checked → List ℕ
told rows = let r = reply_of {A = ℕ} rows 0 in r.number ∷ r.index ∷ []

-- 1, 2, 3, 4 of which the two in the middle have one time
abbrev times_of_four : List ℕ
times_of_four = 1000 ∷ 2000 ∷ 2000 ∷ 3000 ∷ []

abbrev four : List Float
four = num 1 ∷ num 2 ∷ num 3 ∷ num 4 ∷ []

-- what remains of 1, a mark, 3
abbrev three_marked : List ℕ
three_marked = to_bits binary64 (num 1) ∷ mark ∷ to_bits binary64 (num 3) ∷ []

abbrev three_times : List ℕ
three_times = 1000 ∷ 2000 ∷ 3000 ∷ []

abbrev gone : Series
gone = remaining_of (map pos three_times) three_marked

-- and a rollup's answer over all three, at t
abbrev marked : RollupHandler → ℕ → ℕ
marked h t = answer h (record_at (readings (map pos three_times) three_marked) (pos 1000) (pos 5000) (pos t))

abbrev pub requested : List Case
requested =
    -- resets_once: 10, 2, 3 gives 10, 12, 13; resets gives 10, 12, 25
    record { computed = step ResetsOnce (1 ∷ 2 ∷ 3 ∷ []) (num 10 ∷ num 2 ∷ num 3 ∷ []); stated = patterns (num 10 ∷ num 12 ∷ num 13 ∷ []) }
    ∷ record { computed = step Resets (1 ∷ 2 ∷ 3 ∷ []) (num 10 ∷ num 2 ∷ num 3 ∷ []); stated = patterns (num 10 ∷ num 12 ∷ num 25 ∷ []) }
    -- the correction is added to the first value too: −0.0 gives +0.0
    ∷ record { computed = step ResetsOnce (1 ∷ []) (neg (num 0) ∷ []); stated = 0 ∷ [] }
    -- the two rules: a fall by less than an eighth, 80, 71, gives 80, 80; by an eighth, 80, 70, gives 80, 150
    ∷ record { computed = step ResetsOnce (1 ∷ 2 ∷ []) (num 80 ∷ num 71 ∷ []); stated = patterns (num 80 ∷ num 80 ∷ []) }
    ∷ record { computed = step ResetsOnce (1 ∷ 2 ∷ []) (num 80 ∷ num 70 ∷ []); stated = patterns (num 80 ∷ num 150 ∷ []) }
    -- the correction grows: two restarts, 10, 2, 1, give 10, 12, 13
    ∷ record { computed = step ResetsOnce (1 ∷ 2 ∷ 3 ∷ []) (num 10 ∷ num 2 ∷ num 1 ∷ []); stated = patterns (num 10 ∷ num 12 ∷ num 13 ∷ []) }
    -- an output below the one before is lifted to it: −5, −6, 10 gives −5, −5, 5
    ∷ record { computed = step ResetsOnce (1 ∷ 2 ∷ 3 ∷ []) (neg (num 5) ∷ neg (num 6) ∷ num 10 ∷ []); stated = patterns (neg (num 5) ∷ neg (num 5) ∷ num 5 ∷ []) }
    -- until_next: with readings at 1000, 2000, 3000 the wait from 500 is half a second, from 2000 one, from 2999 a thousandth, and from 3000 NaN
    ∷ record { computed = rolled UntilNext (num 1 ∷ num 2 ∷ num 3 ∷ []) 1000 500; stated = 0x3FE0_0000_0000_0000 ∷ [] }
    ∷ record { computed = rolled UntilNext (num 1 ∷ num 2 ∷ num 3 ∷ []) 1000 2000; stated = patterns (num 1 ∷ []) }
    ∷ record { computed = rolled UntilNext (num 1 ∷ num 2 ∷ num 3 ∷ []) 1000 2999; stated = 0x3F50_624D_D2F1_A9FC ∷ [] }
    ∷ record { computed = rolled UntilNext (num 1 ∷ num 2 ∷ num 3 ∷ []) 1000 3000; stated = 0x7FF8_0000_0000_0000 ∷ [] }
    -- a reading at time 0 is one: from −1000 the wait is a second
    ∷ record { computed = answer UntilNext (record_at (from_second 0 (num 1 ∷ [])) (pos 1000) (pos 5000) (negsuc 999)) ∷ []; stated = patterns (num 1 ∷ []) }
    -- equal times pass, and a time below the one before it is refused 4; merge refuses the first time that is not above the one before it
    ∷ record { computed = told (times_checked (map pos (1 ∷ 2 ∷ 2 ∷ 3 ∷ []))); stated = 0 ∷ 0 ∷ [] }
    ∷ record { computed = told (times_checked (map pos (1 ∷ 2 ∷ 2 ∷ 1 ∷ []))); stated = 4 ∷ 3 ∷ [] }
    ∷ record { computed = told (strict_checked (map pos (1 ∷ 2 ∷ 2 ∷ 1 ∷ [])) (0 ∷ 0 ∷ 0 ∷ 0 ∷ [])); stated = 4 ∷ 2 ∷ [] }
    -- with 1, 2, 3, 4 at 1000, 2000, 2000, 3000 the window of a second up to 2000 holds both readings of 2000: the first is 2, the last 3
    ∷ record { computed = figure Count times_of_four four 2000; stated = patterns (num 2 ∷ []) }
    ∷ record { computed = figure First times_of_four four 2000; stated = patterns (num 2 ∷ []) }
    ∷ record { computed = figure Default times_of_four four 2000; stated = patterns (num 3 ∷ []) }
    -- up to 3000 it holds 4 alone, whose predecessor is the last of the two: delta is 1
    ∷ record { computed = figure Count times_of_four four 3000; stated = patterns (num 1 ∷ []) }
    ∷ record { computed = figure Delta times_of_four four 3000; stated = patterns (num 1 ∷ []) }
    -- and the next reading after 1000 is the first of them
    ∷ record { computed = to_bits binary64 (seen times_of_four four 1000).arg.real_next_value ∷ []; stated = patterns (num 2 ∷ []) }
    -- over 0 seconds a rise is +∞ a second, a fall −∞, and no change NaN
    ∷ record { computed = figure DerivFast (1000 ∷ 1000 ∷ []) (num 1 ∷ num 3 ∷ []) 1000; stated = 0x7FF0_0000_0000_0000 ∷ [] }
    ∷ record { computed = figure DerivFast (1000 ∷ 1000 ∷ []) (num 3 ∷ num 1 ∷ []) 1000; stated = 0xFFF0_0000_0000_0000 ∷ [] }
    ∷ record { computed = figure DerivFast (1000 ∷ 1000 ∷ []) (num 2 ∷ num 2 ∷ []) 1000; stated = 0x7FF8_0000_0000_0000 ∷ [] }
    -- ideriv goes from the last reading before the window's last time, here the predecessor, and is 0 where there is none
    ∷ record { computed = figure Ideriv (1000 ∷ 2000 ∷ 2000 ∷ []) (num 1 ∷ num 2 ∷ num 5 ∷ []) 2000; stated = patterns (num 4 ∷ []) }
    ∷ record { computed = figure Ideriv (1000 ∷ 1000 ∷ []) (num 1 ∷ num 3 ∷ []) 1000; stated = 0 ∷ [] }
    -- the step deriv passes over a reading of the same time: 0, 0, 1000 with 1, 5, 3 gives 0, 2, 2
    ∷ record { computed = step Deriv (0 ∷ 0 ∷ 1000 ∷ []) (num 1 ∷ num 5 ∷ num 3 ∷ []); stated = patterns (num 0 ∷ num 2 ∷ num 2 ∷ []) }
    -- the staleness mark passes row 5 of the runs and no other; with the quiet bit or the other sign it passes none
    ∷ record { computed = told (marked_checked (map pos (1 ∷ 2 ∷ [])) (0 ∷ mark ∷ [])); stated = 0 ∷ 0 ∷ [] }
    ∷ record { computed = told (series_checked (map pos (1 ∷ 2 ∷ [])) (0 ∷ mark ∷ [])); stated = 5 ∷ 1 ∷ [] }
    ∷ record { computed = told (marked_checked (map pos (1 ∷ 2 ∷ [])) (mark ∷ 0x7FF8_0000_0000_0002 ∷ [])); stated = 5 ∷ 1 ∷ [] }
    ∷ record { computed = told (marked_checked (map pos (1 ∷ 2 ∷ [])) (mark ∷ 0xFFF0_0000_0000_0002 ∷ [])); stated = 5 ∷ 1 ∷ [] }
    -- of 1, a mark, 3 at 1000, 2000, 3000 there remain 1 and 3
    ∷ record { computed = map nat_abs gone.times ++ gone.values; stated = 1000 ∷ 3000 ∷ patterns (num 1 ∷ num 3 ∷ []) }
    -- over all three default answers the mark at 2000, with its bits, and stale_samples one; over an empty window NaN
    ∷ record { computed = marked Default 2000 ∷ marked StaleSamples 2000 ∷ marked StaleSamples 3000 ∷ []; stated = mark ∷ patterns (num 1 ∷ num 0 ∷ []) }
    ∷ record { computed = marked StaleSamples 5000 ∷ marked Default 5000 ∷ []; stated = 0x7FF8_0000_0000_0000 ∷ 0x7FF8_0000_0000_0000 ∷ [] }
    -- the two are refused 19 with a step, and without one they are not; no other rollup is
    ∷ record { computed = told (row19 Default Deriv) ++ told (row19 StaleSamples Resets); stated = 19 ∷ 0 ∷ 19 ∷ 0 ∷ [] }
    ∷ record { computed = told (row19 Default None) ++ told (row19 Count Deriv); stated = 0 ∷ 0 ∷ 0 ∷ 0 ∷ [] }
    -- distances of 0 give the estimate of a lone reading
    ∷ record { computed = estimate_of (pos 7 ∷ pos 7 ∷ pos 7 ∷ []) ∷ []; stated = 300000 ∷ [] }
    ∷ []
