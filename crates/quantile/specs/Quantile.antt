-- Quantiles as common/math.rs has them, each operation rounded in its order.
use Rattle.std.specs.Prelude.{true, false, cond, ◌||◌, List, map, ℕ, ◌+◌, ◌-◌, min, eqb, pos, length, get_or, Float}
use Rattle.std.specs.Float.{nan, inf, binary64}
use Rattle.std.specs.Float.Ieee.{add, sub, mul, lt, is_nan, of_bits, of_int, to_unsigned}
use Rattle.ieee.specs.Value.{abs_of, floor_of}
use Rattle.sort.specs.Values.{kept}
use Rattle.order.specs.Order.{sorted}
use Rattle.order.specs.declared.Order.TheVariants.{Partial}

-- lower × (1 − w) + upper × w
unfoldable pub between : Float → Float → Float → Float
unfolding add sub mul
between w lower upper = add binary64 (mul binary64 lower (sub binary64 (of_bits binary64 0x3FF0000000000000) w)) (mul binary64 upper w)

-- The values at the whole part of the rank and at the next place, weighted by the rank's fraction. The whole part of a rank among up to 2 ^ 53 values
-- is an index of them (`index-within` in proofs/Index.antt), so that the first bound by the last index is never met; a longer slice is not turned away.
unfoldable pub at_rank : Float → List Float → Float
unfolding between sub floor_of to_unsigned
at_rank rank xs =
    let i = min (to_unsigned 64 (floor_of rank)) (length xs - 1) in
    between (sub binary64 rank (floor_of rank)) (get_or xs i nan) (get_or xs (min (i + 1) (length xs - 1)) nan)

-- phi × (n − 1)
unfoldable pub rank_of : Float → ℕ → Float
unfolding mul of_int
rank_of phi n = mul binary64 phi (of_int binary64 (pos (n - 1)))

-- no value, or a phi that is NaN: NaN; a phi below 0: −∞; above 1: +∞
unfoldable pub quantile_sorted : Float → List Float → Float
unfolding at_rank rank_of lt
quantile_sorted phi xs =
    cond (eqb (length xs) 0 || is_nan phi) nan
    (cond (lt phi (of_bits binary64 0)) (inf true)
    (cond (lt (of_bits binary64 0x3FF0000000000000) phi) (inf false)
    (at_rank (rank_of phi (length xs)) xs)))

-- NaN is dropped, and the rest is sorted
unfoldable pub quantile_of : Float → List Float → Float
unfolding quantile_sorted
quantile_of phi xs = quantile_sorted phi (sorted Partial (kept xs))

-- quantile 0.5
abbrev pub median_of : List Float → Float
median_of xs = quantile_of (of_bits binary64 0x3FE0000000000000) xs

-- the distances from a middle
abbrev pub deviations : Float → List Float → List Float
deviations middle xs = map (λ x. abs_of (sub binary64 x middle)) xs

-- the median of the distances from the median
abbrev pub mad_of : List Float → Float
mad_of xs = median_of (deviations (median_of xs) xs)
