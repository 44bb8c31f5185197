-- `times::grid::points` meets its contract. In the limits of rows 6 and 7 the distance fits, and its quotient by the step is that of two naturals.
-- Assumes nothing.
use Prim.Native.Nat.{ℕ, ◌/◌, ◌^◌, ◌<◌, ◌≤◌}
use native.Mathlib.Omega.{arith}
use native.Mathlib.Nat.{div-le_self}
use mathlib.Core.Path.{◌≡◌, refl}
use mathlib.Core.Bool.{true, false≢true}
use borrow.Author.Tests.{leb-true}
use lib.IntN.{ℤ, pos, negsuc, nat_abs, ◌-ℤ◌}
use lib.Signed.{le_z, quot_z}
use mir.Syntax.{w64}
use mir.Val.{SFits, to_z, of_z}
use mir.Facts.{to_z-of_z}
use Rattle.times.specs.Milli.{Within}
use Rattle.times.specs.Grid.{grid_size}
use Rattle.times.proofs.Order.{offset-of}
use Rattle.times.proofs.Milli.{within-sub, within-fits}
use Rattle.times.proofs.grid.points.Goals as goal

quot-by : (n : ℕ) (st : ℤ) → le_z (pos 1) st ≡ true → quot_z (pos n) st ≡ pos (n / nat_abs st)
quot-by n (pos d) h = refl
quot-by n (negsuc d) h = cc

bits-some : (st : ℤ) → le_z (pos 1) st ≡ true → 0 < of_z w64 st
bits-some (pos d) h = leb-true 1 d h
bits-some (negsuc d) h = absurd (false≢true h)

module _ (c : goal.Start) where
  steps : ℕ
  steps = nat_abs (c.args.end -ℤ c.args.start) / nat_abs c.args.step

  wide : Within (2 ^ 51) (c.args.end -ℤ c.args.start)
  wide = within-sub c.requires.end_within c.requires.start_within

  few : steps ≤ 2 ^ 51
  unfolding steps
  few = omega (arith, wide, div-le_self (nat_abs (c.args.end -ℤ c.args.start)) (nat_abs c.args.step))

  quotient : quot_z (to_z w64 (of_z w64 (to_z w64 (of_z w64 c.args.end) -ℤ to_z w64 (of_z w64 c.args.start)))) (to_z w64 (of_z w64 c.args.step)) ≡ pos steps
  unfolding steps
  quotient =
      rw (to_z-of_z c.ranges.end, to_z-of_z c.ranges.start, to_z-of_z (within-fits tt wide), to_z-of_z c.ranges.step, offset-of c.args.start c.args.end c.requires.ordered)
      (quot-by _ c.args.step c.requires.step_positive)

  fits : SFits w64 (pos steps)
  fits = record { sfits = omega (arith, few) }

pub overflow_cast-result : goal.overflow_cast-result
overflow_cast-result c = simp (quotient c, to_z-of_z (fits c)) (tt, record { fits = omega (arith, few c) })

pub returns : goal.returns
unfolding grid_size steps
returns c = simp (quotient c, to_z-of_z (fits c))
