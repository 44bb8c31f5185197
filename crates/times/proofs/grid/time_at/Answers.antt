-- `times::grid::time_at` meets its contract. The time and start are within the limit, so the steps between them fit, and with them their number.
-- Assumes nothing.
use Prim.Native.Nat.{ℕ, ◌^◌, ◌<◌, ◌≤◌}
use native.Mathlib.Omega.{arith}
use native.Mathlib.Nat.{mul-le-mul_left}
use mathlib.Core.Path.{◌≡◌}
use mathlib.Core.Bool.{true, false≢true}
use borrow.Author.Tests.{leb-true}
use lib.IntN.{ℤ, pos, negsuc, nat_abs, ◌*ℤ◌}
use lib.Signed.{le_z}
use mir.Syntax.{w64}
use mir.Facts.{to_z-of_z, to_z_pos}
use Rattle.times.specs.Milli.{time_limit, Within}
use Rattle.times.specs.Grid.{time_at}
use Rattle.times.proofs.GridLaws.{time_within}
use Rattle.times.proofs.Order.{offset}
use Rattle.times.proofs.Milli.{within-sub, within-fits}
use Rattle.times.proofs.grid.time_at.Goals as goal

at_least : (k : ℕ) (st : ℤ) → le_z (pos 1) st ≡ true → k ≤ nat_abs (pos k *ℤ st)
at_least k (pos d) h = omega (arith, mul-le-mul_left k (leb-true 1 d h))
at_least k (negsuc d) h = absurd (false≢true h)

module _ (c : goal.Start) where
  within : Within time_limit (time_at c.args.start c.args.step c.args.k)
  within = time_within c.requires.spans c.args.k c.requires.below

  wide : Within (2 ^ 51) (pos c.args.k *ℤ c.args.step)
  unfolding time_at
  wide = rw (offset c.args.start (pos c.args.k *ℤ c.args.step)) at (within-sub within c.requires.spans.start_within)

  few : c.args.k < 2 ^ 63
  few = omega (arith, wide, at_least c.args.k c.args.step c.requires.spans.step_positive)

pub overflow_cast-result : goal.overflow_cast-result
overflow_cast-result c = record { sfits = few c }

pub overflow_mul-result : goal.overflow_mul-result
overflow_mul-result c = simp (to_z_pos w64 (few c), to_z-of_z c.ranges.step) (within-fits tt (wide c))

pub overflow_add-result : goal.overflow_add-result
unfolding time_at
overflow_add-result c =
    simp (to_z_pos w64 (few c), to_z-of_z c.ranges.step, to_z-of_z (within-fits tt (wide c)), to_z-of_z c.ranges.start)
    (within-fits tt (within c))

pub returns : goal.returns
unfolding time_at
returns c =
    simp (to_z_pos w64 (few c), to_z-of_z c.ranges.step, to_z-of_z (within-fits tt (wide c)), to_z-of_z c.ranges.start)
    (to_z-of_z (within-fits tt (within c)))
