-- The readings that a series holds, and the series of some readings.
-- Assumes nothing.
use mathlib.Core.List.{List, map}
use Rattle.std.specs.Prelude.{ℕ, ℤ}
use Rattle.record.specs.Record.{Reading, readings}
use Rattle.series.specs.Series.{Series, series}

-- its readings
abbrev pub held : Series → List Reading
held s = readings s.times s.values

abbrev pub time_of : Reading → ℤ
time_of x = x.time

abbrev pub value_of : Reading → ℕ
value_of x = x.value

-- the two slices of some readings
abbrev pub series_of : List Reading → Series
series_of xs = series (map time_of xs) (map value_of xs)
