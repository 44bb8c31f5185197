-- The estimated interval between readings (`get_scrape_interval`): quantile 0.6 of the first 20 intervals.
-- Assumes nothing.
use Rattle.std.specs.Prelude.{cond, List, [], ◌∷◌, map, ℕ, ltb, ℤ, pos, nat_abs, ◌-ℤ◌, Float, length, take}
use Rattle.std.specs.Float.{binary64}
use Rattle.std.specs.Float.Ieee.{of_bits, of_int, to_signed}
use Rattle.std.specs.Int.Signed.{le_z}
use Rattle.quantile.specs.Quantile.{quantile_of}

-- what stands for an interval that cannot be estimated: five minutes
abbrev pub silence : ℕ
silence = 300000

-- each time's distance from the one before, the first from t
unfoldable pub distances_from : ℤ → List ℤ → List ℤ
distances_from t [] = []
distances_from t (u ∷ us) = (u -ℤ t) ∷ distances_from u us

unfoldable pub distances : List ℤ → List ℤ
distances [] = []
distances (t ∷ ts) = distances_from t ts

-- the first 20 of them as floats
abbrev pub first_intervals : List ℤ → List Float
first_intervals ts = map (of_int binary64) (take 20 (distances ts))

-- a whole number above 0 itself, and any other as five minutes
abbrev pub or_silence : ℤ → ℕ
or_silence z = cond (le_z z (pos 0)) silence (nat_abs z)

-- fewer than two times give five minutes; else quantile 0.6, truncated
unfoldable pub estimate_of : List ℤ → ℕ
estimate_of ts = cond (ltb (length ts) 2) silence (or_silence (to_signed 63 (quantile_of (of_bits binary64 0x3FE3333333333333) (first_intervals ts))))
