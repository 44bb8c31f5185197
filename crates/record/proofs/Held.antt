-- A series with as many values as times is that of the readings that it holds.
-- Assumes nothing.
use mathlib.Core.List.{map}
use mathlib.Core.Path.{◌≡◌, refl, ap₂}
use lib.ListN.{length}
use Rattle.record.specs.Held.{held, series_of, time_of, value_of}
use Rattle.record.specs.Record.{reading}
use Rattle.series.specs.Series.{Series, series}
use Rattle.times.proofs.Readings.{zip-left, zip-right}

pub times-held : (s : Series) → length s.times ≡ length s.values → map time_of (held s) ≡ s.times
times-held s e = zip-left reading time_of (λ x y. refl) s.times s.values e

pub values-held : (s : Series) → length s.times ≡ length s.values → map value_of (held s) ≡ s.values
values-held s e = zip-right reading value_of (λ x y. refl) s.times s.values e

pub series-held : (s : Series) → length s.times ≡ length s.values → series_of (held s) ≡ s
series-held s e = ap₂ series (times-held s e) (values-held s e)
