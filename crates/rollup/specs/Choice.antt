-- A rollup by its number in docs/ROLLUPS.md, with two parameters beside it.
-- Assumes nothing.
use Rattle.std.specs.Prelude.{ℕ, List, [], ◌∷◌, Option, slice_get, Float}
use Rattle.rollup.specs.declared.handler.RollupHandler.{RollupHandler}
use Rattle.rollup.specs.declared.handler.RollupHandler.TheVariants.{Avg, Min, Max, Mad, Median, Tmin, Tmax, Tfirst, Tlast, TlastChange, Sum, Sum2, RateOverSum, Range, Absent, Present, Count, Stddev, Stdvar, IncreasePure, Lifetime, Lag, ScrapeInterval, Changes, ChangesPrometheus, Increases, Resets, ModeOverTime, AscentOverTime, DescentOverTime, ZscoreOverTime, First, Default, Distinct, DerivSlow, DerivFast, Ideriv, Delta, DeltaPrometheus, Idelta, Open, Close, High, Low, Integrate, Quantile, PredictLinear, HoltWinters, UntilNext, StaleSamples}

-- the rollups in the order of their numbers, from 0 on
abbrev pub rollups : Float → Float → List RollupHandler
rollups first second =
    Avg ∷ Min ∷ Max ∷ Mad ∷ Median ∷ Tmin ∷ Tmax ∷ Tfirst ∷ Tlast ∷ TlastChange ∷ Sum ∷ Sum2 ∷ RateOverSum ∷ Range ∷ Absent ∷ Present ∷ Count ∷ Stddev ∷ Stdvar ∷ IncreasePure ∷ Lifetime ∷ Lag ∷ ScrapeInterval ∷ Changes ∷ ChangesPrometheus ∷ Increases ∷ Resets ∷ ModeOverTime ∷ AscentOverTime ∷ DescentOverTime ∷ ZscoreOverTime ∷ First ∷ Default ∷ Distinct ∷ DerivSlow ∷ DerivFast ∷ Ideriv ∷ Delta ∷ DeltaPrometheus ∷ Idelta ∷ Open ∷ Close ∷ High ∷ Low ∷ Integrate ∷ Quantile first ∷ PredictLinear first ∷ HoltWinters first second ∷ UntilNext ∷ StaleSamples ∷ []

-- a number past them names none
abbrev pub rollup_of : ℕ → Float → Float → Option RollupHandler
rollup_of n first second = slice_get (rollups first second) n
