-- The variance and the standard deviation as common/math.rs has them: one pass with a running mean, NaN passed over.
use Rattle.std.specs.Prelude.{cond, ℕ, ◌+◌, eqb, pos, Float}
use mathlib.Core.List.{List, [], ◌∷◌, foldl}
use Rattle.std.specs.Float.{nan, binary64}
use Rattle.std.specs.Float.Ieee.{add, sub, mul, div, is_nan, of_bits, of_int}
use Rattle.root.specs.Root.{sqrt_of}

-- how many values, their mean, and the sum q of products of distances from the mean before and after each
pub record Spread : Type 0 where
  pub count : ℕ
  pub avg : Float
  pub q : Float

-- the mean with x, whose number is one more than the count
abbrev pub mean_with : Spread → Float → Float
mean_with s x = add binary64 s.avg (div binary64 (sub binary64 x s.avg) (of_int binary64 (pos (s.count + 1))))

-- x taken in
abbrev pub spread_with : Spread → Float → Spread
spread_with s x = record {
  count = s.count + 1;
  avg = mean_with s x;
  q = add binary64 s.q (mul binary64 (sub binary64 x s.avg) (sub binary64 x (mean_with s x)));
}

-- NaN is passed over
unfoldable pub spread_step : Spread → Float → Spread
unfolding add sub mul div of_int is_nan
spread_step s x = cond (is_nan x) s (spread_with s x)

-- q by the count, and NaN where every value was NaN
abbrev pub variance : Spread → Float
variance s = cond (eqb s.count 0) nan (div binary64 s.q (of_int binary64 (pos s.count)))

-- no value: NaN; one: 0.0, even where it is NaN
unfoldable pub stdvar_of : List Float → Float
unfolding spread_step
stdvar_of [] = nan
stdvar_of (x ∷ []) = of_bits binary64 0
stdvar_of (x ∷ y ∷ ys) = variance (foldl spread_step (record { count = 0; avg = of_bits binary64 0; q = of_bits binary64 0 }) (x ∷ y ∷ ys))

-- the root of the variance
abbrev pub stddev_of : List Float → Float
stddev_of xs = sqrt_of (stdvar_of xs)
