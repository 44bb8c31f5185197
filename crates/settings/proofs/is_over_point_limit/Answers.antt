-- `settings::is_over_point_limit` meets its contract: in the limits of rows 6 and 7 the distance, the divisor and the quotient fit.
-- Assumes nothing.
use Prim.Native.Nat.{ℕ, ◌+◌, ◌^◌, ◌<◌, ◌≤◌}
use native.Mathlib.Omega.{arith}
use native.Mathlib.Nat.{div-le_self}
use mathlib.Core.Path.{◌≡◌}
use mathlib.Core.Bool.{true, false≢true}
use lib.Dec.{lit≤}
use lib.IntN.{ℤ, pos, negsuc, ◌+ℤ◌, ◌-ℤ◌}
use lib.Signed.{le_z, quot_z}
use mir.Syntax.{w64}
use mir.Val.{SFits, to_z, of_z}
use mir.Facts.{to_z-of_z}
use Rattle.times.specs.Grid.{Spans}
use Rattle.times.specs.Milli.{Within}
use Rattle.times.proofs.Order.{offset-of}
use Rattle.times.proofs.Milli.{within-add, within-sub, within-fits}
use Rattle.settings.specs.Rows.{over_point_limit}
use Rattle.settings.proofs.is_over_point_limit.Goals as goal

divisor-some : (st : ℤ) → le_z (pos 1) st ≡ true → 0 < of_z w64 (st +ℤ pos 1)
divisor-some (pos d) h = omega arith
divisor-some (negsuc d) h = absurd (false≢true h)

quotient-within : {k n : ℕ} (st : ℤ) → le_z (pos 1) st ≡ true → n ≤ k → Within k (quot_z (pos n) (st +ℤ pos 1))
quotient-within {k} {n} (pos d) h l = record { size = omega (arith, div-le_self n (d + 1)) }
quotient-within (negsuc d) h l = absurd (false≢true h)

module _ {start end step : ℤ} (h : Spans start end step) where
  wide : Within (2 ^ 51) (end -ℤ start)
  wide = within-sub h.end_within h.start_within

  divisor : SFits w64 (step +ℤ pos 1)
  divisor = within-fits tt (within-add {k = 1} h.step_within (record { size = lit≤ tt }))

  quotient : SFits w64 (quot_z (end -ℤ start) (step +ℤ pos 1))
  quotient = rw (offset-of start end h.ordered) (within-fits tt (quotient-within step h.step_positive wide.size))

  -- what the code computes it from
  computed : SFits w64 start
      → SFits w64 end
      → SFits w64 step
      → quot_z (to_z w64 (of_z w64 (to_z w64 (of_z w64 end) -ℤ to_z w64 (of_z w64 start)))) (to_z w64 (of_z w64 (to_z w64 (of_z w64 step) +ℤ pos 1)))
      ≡ quot_z (end -ℤ start) (step +ℤ pos 1)
  computed s e t = rw (to_z-of_z e, to_z-of_z s, to_z-of_z t, to_z-of_z (within-fits tt wide), to_z-of_z divisor)

pub nonzero_div-result : goal.nonzero_div-result
nonzero_div-result c =
    (rw (to_z-of_z c.ranges.step) (divisor-some c.args.step c.requires.step_positive), rw (computed c.requires c.ranges.start c.ranges.end c.ranges.step) (quotient c.requires))

pub returns-then-max_points-gt0 : goal.returns-then-max_points-gt0
unfolding over_point_limit
returns-then-max_points-gt0 c =
    rw
    (computed c.requires c.ranges.start c.ranges.end c.ranges.step, to_z-of_z (quotient c.requires), to_z-of_z c.ranges.max_points, rw (to_z-of_z c.ranges.max_points) at c.if-max_points-gt0.true)

pub returns-else-max_points-gt0 : goal.returns-else-max_points-gt0
unfolding over_point_limit
returns-else-max_points-gt0 c = rw (rw (to_z-of_z c.ranges.max_points) at c.if-max_points-gt0.false) c.if-max_points-gt0.false
