-- Corners of settle, computed; the stated cases are in the table of `claims`.
-- Assumes nothing.
use mathlib.Core.Bool.{true}
use mathlib.Core.List.{[], ◌∷◌}
use mathlib.Core.Path.{◌≡◌, refl}
use lib.IntN.{pos}
use lib.Ieee.{add, sub, mul, round, lt, of_bits, of_int, to_unsigned, to_signed, is_nan}
use Rattle.ieee.specs.Value.{floor_of}
use Rattle.sort.specs.Values.{kept}
use Rattle.order.specs.Sort.{insert_by, sort_by}
use Rattle.quantile.specs.Quantile.{between, at_rank, rank_of, quantile_sorted, quantile_of}
use Rattle.std.specs.Prelude.{Ok, Err}
use Rattle.series.specs.declared.refusal.Refusal.TheVariants.{OverPointLimit, WindowOutside}
use Rattle.config.specs.Estimate.{distances, distances_from, estimate_of}
use Rattle.config.specs.Reach.{reach_of, bounded_reach, window_of}
use Rattle.settings.specs.Rows.{outside, over_point_limit, row10, settled_limit, settled_outside, settled_row8}

-- rounded as floats are: 7, not 8
pub eight-times : estimate_of (pos 0 ∷ pos 5 ∷ pos 10 ∷ pos 15 ∷ pos 20 ∷ pos 30 ∷ pos 40 ∷ pos 50 ∷ []) ≡ 7
unfolding estimate_of distances distances_from quantile_of quantile_sorted at_rank rank_of between sort_by insert_by kept floor_of add sub mul round lt of_bits of_int to_unsigned to_signed is_nan
eight-times = refl

pub no-reading : reach_of (estimate_of []) ≡ 337500
unfolding reach_of estimate_of
no-reading = refl

pub reach-of-2000 : reach_of 2000 ≡ 10000
unfolding reach_of
reach-of-2000 = refl

pub reach-of-2001 : reach_of 2001 ≡ 6003
unfolding reach_of
reach-of-2001 = refl

-- a staleness interval raises the reach past the lookback delta's cap
pub past-the-cap : bounded_reach 3000 5000 10000 ≡ 5000
unfolding bounded_reach
past-the-cap = refl

-- window 0: the step, raised to the reach, capped by the lookback delta
pub window-of-0 : window_of 0 1000 true true 3000 5000 ≡ 3000
unfolding window_of
window-of-0 = refl

-- start 0, end 10, step 1: limit 5 passes, 4 is refused
pub limit-of-5 : row10 (pos 0) (pos 10) (pos 1) (pos 5) ≡ Ok tt
unfolding over_point_limit
limit-of-5 = refl

pub limit-of-4 : row10 (pos 0) (pos 10) (pos 1) (pos 4) ≡ Err OverPointLimit
unfolding over_point_limit
limit-of-4 = refl

-- settled: window 2^52 passes, 0 is refused
pub longest-window : settled_row8 (pos settled_limit) (pos 1) ≡ Ok tt
unfolding outside settled_outside
longest-window = refl

pub no-window : settled_row8 (pos 0) (pos 1) ≡ Err WindowOutside
unfolding outside settled_outside
no-window = refl
