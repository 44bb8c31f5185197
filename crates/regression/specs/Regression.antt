-- The least-squares line as common/math.rs has it, over seconds since an intercept time.
use Rattle.std.specs.Prelude.{Bool, true, cond, ◌&&◌, List, [], ◌∷◌, ℤ, pos, ◌-ℤ◌, length, Float}
use Rattle.std.specs.Float.{nan, binary64}
use Rattle.std.specs.Float.Ieee.{add, sub, mul, div, eq, le, of_bits, of_int}
use Rattle.ieee.specs.Value.{abs_of, seconds_of}
use Rattle.regression.specs.declared.Line.{Line}
use Rattle.regression.specs.declared.Sums.{Sums}

-- every value equals the one before it
unfoldable pub const_after : Float → List Float → Bool
unfolding eq
const_after p [] = true
const_after p (x ∷ xs) = eq x p && const_after x xs

unfoldable pub are_const : List Float → Bool
unfolding const_after
are_const [] = true
are_const (x ∷ xs) = const_after x xs

-- the seconds from the intercept time to t
abbrev pub seconds_from : ℤ → ℤ → Float
seconds_from intercept t = seconds_of (t -ℤ intercept)

-- a reading's value v at dt seconds taken in
abbrev pub sums_with : Sums → Float → Float → Sums
sums_with s dt v = record {
  v_sum = add binary64 s.v_sum v;
  t_sum = add binary64 s.t_sum dt;
  tv_sum = add binary64 s.tv_sum (mul binary64 dt v);
  tt_sum = add binary64 s.tt_sum (mul binary64 dt dt);
}

abbrev pub no_sums : Sums
no_sums = let zero = of_bits binary64 0 in record { v_sum = zero; t_sum = zero; tv_sum = zero; tt_sum = zero }

-- the sums over the readings
unfoldable pub sums_from : ℤ → Sums → List ℤ → List Float → Sums
unfolding add mul div of_int
sums_from intercept s [] vs = s
sums_from intercept s (t ∷ ts) [] = s
sums_from intercept s (t ∷ ts) (v ∷ vs) = sums_from intercept (sums_with s (seconds_from intercept t) v) ts vs

-- tt − t × t / n
abbrev pub spread_of : Sums → Float → Float
spread_of s n = sub binary64 s.tt_sum (div binary64 (mul binary64 s.t_sum s.t_sum) n)

-- the slope, and 0 where the divisor is nearer 0 than 1e-6
abbrev pub slope_of : Sums → Float → Float
slope_of s n =
    cond (le (of_bits binary64 0x3EB0C6F7A0B5ED8D) (abs_of (spread_of s n)))
    (div binary64 (sub binary64 s.tv_sum (div binary64 (mul binary64 s.t_sum s.v_sum) n)) (spread_of s n))
    (of_bits binary64 0)

-- the line through n readings with these sums
unfoldable pub line_of : Sums → Float → Line
unfolding sub mul div le
line_of s n = record {
  v = sub binary64 (div binary64 s.v_sum n) (div binary64 (mul binary64 (slope_of s n) s.t_sum) n);
  k = slope_of s n;
}

-- no reading: NaN twice; equal values: the first, and no slope
unfoldable pub regression_of : List Float → List ℤ → ℤ → Line
unfolding are_const sums_from line_of
regression_of [] ts intercept = record { v = nan; k = nan }
regression_of (x ∷ xs) ts intercept =
    let n = of_int binary64 (pos (length (x ∷ xs))) in
    cond (are_const (x ∷ xs)) (record { v = x; k = of_bits binary64 0 }) (line_of (sums_from intercept no_sums ts (x ∷ xs)) n)
