-- Corners of common/math.rs that were run on the Rust, computed by antt; the stated cases are in the table of `claims`. Assumes nothing.
use mathlib.Core.Path.{◌≡◌, refl}
use mathlib.Core.Bool.{false}
use mathlib.Core.List.{[], ◌∷◌}
use lib.IntN.{pos}
use lib.Ieee.{Float, nan, inf, binary64, is_nan, of_bits}
use Rattle.ieee.specs.Value.{abs_of, total_lt}
use Rattle.sort.specs.Values.{kept}
use Rattle.order.specs.Sort.{sort_by}
use Rattle.quantile.specs.Quantile.{quantile_of, median_of, mad_of}
use Rattle.math.specs.Deviation.{stdvar_of}
use Rattle.math.specs.Mode.{mode_of}
use Rattle.regression.specs.Regression.{regression_of}

abbrev minus_one : Float
minus_one = of_bits binary64 0xBFF0000000000000

abbrev minus-zero : Float
minus-zero = of_bits binary64 0x8000000000000000

abbrev zero : Float
zero = of_bits binary64 0x0000000000000000

abbrev one : Float
one = of_bits binary64 0x3FF0000000000000

abbrev two : Float
two = of_bits binary64 0x4000000000000000

abbrev three : Float
three = of_bits binary64 0x4008000000000000

abbrev five : Float
five = of_bits binary64 0x4014000000000000

abbrev seven : Float
seven = of_bits binary64 0x401C000000000000

-- an infinity times weight 0 is NaN
quantile-infinity : quantile_of zero (one ∷ inf false ∷ []) ≡ nan
unfolding quantile_of kept sort_by of_bits is_nan
quantile-infinity = refl

-- phi −0.0 is accepted
quantile-minus-zero : quantile_of minus-zero (three ∷ one ∷ []) ≡ one
unfolding quantile_of kept sort_by of_bits is_nan
quantile-minus-zero = refl

-- phi 1 gives the greatest
quantile-one : quantile_of one (three ∷ nan ∷ one ∷ []) ≡ three
unfolding quantile_of kept sort_by of_bits is_nan
quantile-one = refl

-- the median of −1, −0.0, 5 is +0.0: the other value at weight 0 is added
median-zero : median_of (minus_one ∷ minus-zero ∷ five ∷ []) ≡ zero
unfolding quantile_of kept sort_by of_bits is_nan
median-zero = refl

-- the distances of 1, 3, 7 from their median are 2, 0, 4
mad-of-three : mad_of (one ∷ three ∷ seven ∷ []) ≡ two
unfolding quantile_of kept sort_by of_bits is_nan abs_of
mad-of-three = refl

-- where the median is NaN every distance is dropped
mad-of-none : mad_of (nan ∷ []) ≡ nan
unfolding quantile_of kept sort_by of_bits is_nan abs_of
mad-of-none = refl

-- one value has the variance 0.0
stdvar-one : stdvar_of (seven ∷ []) ≡ zero
unfolding stdvar_of
stdvar-one = refl

-- the predecessor 2 does not join the samples 2, which stand behind the samples 1
mode-least : mode_of two (one ∷ one ∷ two ∷ two ∷ []) ≡ one
unfolding mode_of sort_by total_lt of_bits
mode-least = refl

-- sorted by `total_cmp`, −0.0 comes first
mode-zeros : mode_of nan (zero ∷ minus-zero ∷ []) ≡ minus-zero
unfolding mode_of sort_by total_lt of_bits
mode-zeros = refl

-- 2 at 0 s and 5 at 3 s: 2 and a slope of 1
line-slope : regression_of (two ∷ five ∷ []) (pos 1000 ∷ pos 4000 ∷ []) (pos 1000) ≡ record { v = two; k = one }
unfolding regression_of of_bits abs_of
line-slope = refl

-- equal values give the first and no slope
line-constant : regression_of (zero ∷ minus-zero ∷ []) (pos 0 ∷ pos 1 ∷ []) (pos 0) ≡ record { v = zero; k = zero }
unfolding regression_of of_bits abs_of
line-constant = refl

-- readings at one time have no slope, as the divisor is nearer 0 than 1e-6
line-one-time : regression_of (one ∷ three ∷ []) (pos 5 ∷ pos 5 ∷ []) (pos 5) ≡ record { v = two; k = zero }
unfolding regression_of of_bits abs_of
line-one-time = refl
