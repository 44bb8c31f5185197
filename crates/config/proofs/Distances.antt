-- The distances between accepted times, by index.
-- Assumes nothing.
use Prim.Native.Nat.{ℕ, zero, suc, ◌-◌, ◌<◌}
use native.Mathlib.Omega.{arith}
use mathlib.Core.Path.{◌≡◌, refl}
use mathlib.Core.List.{List, [], ◌∷◌}
use lib.IntN.{ℤ, pos, ◌-ℤ◌}
use lib.ListN.{length, get_or}
use Rattle.times.specs.Milli.{time_limit, Within}
use Rattle.times.specs.Later.{NotFalling}
use Rattle.series.specs.Rows.{times_checked}
use Rattle.std.specs.Prelude.{Ok}
use Rattle.series.proofs.Accepted.{accepted-times}
use Rattle.series.proofs.Times.{none-fall, within_all}
use Rattle.config.specs.Estimate.{distances_from, distances}

length_from : (t : ℤ) (us : List ℤ) → length (distances_from t us) ≡ length us
unfolding distances_from
length_from t [] = refl
length_from t (u ∷ us) = omega (arith, length_from u us)

pub length-distances : (ts : List ℤ) → length (distances ts) ≡ length ts - 1
unfolding distances
length-distances [] = refl
length-distances (t ∷ ts) = omega (arith, length_from t ts)

from_at : (t : ℤ) (us : List ℤ) (i : ℕ) → i < length us → get_or (distances_from t us) i (pos 0) ≡ get_or us i (pos 0) -ℤ get_or (t ∷ us) i (pos 0)
unfolding distances_from
from_at t [] i h = absurd (omega arith)
from_at t (u ∷ us) zero h = refl
from_at t (u ∷ us) (suc i) h = from_at u us i (omega arith)

pub distance-at : (ts : List ℤ) (i : ℕ) → suc i < length ts → get_or (distances ts) i (pos 0) ≡ get_or ts (suc i) (pos 0) -ℤ get_or ts i (pos 0)
unfolding distances
distance-at [] i h = absurd (omega arith)
distance-at (t ∷ ts) i h = from_at t ts i (omega arith)

-- ---- accepted times

pub not-falling : (ts : List ℤ) → times_checked ts ≡ Ok tt → NotFalling ts
not-falling ts e = none-fall ts (accepted-times ts e).none_falls

pub within : (ts : List ℤ) → times_checked ts ≡ Ok tt → (i : ℕ) → i < length ts → Within time_limit (get_or ts i (pos 0))
within ts e i h = within_all ts (accepted-times ts e).all_inside i h
