-- `replay_regression::same` is safe: accepted times lie in ±2^50 and the intercept in ±2^51, so their differences fit.
-- Assumes nothing.
use Prim.Native.Nat.{◌^◌}
use mathlib.Core.Path.{sym}
use native.Mathlib.Omega.{arith}
use mir.Syntax.{w64}
use mir.Val.{of_z, to_z}
use Rattle.times.specs.Milli.{Within}
use Rattle.times.proofs.Milli.{within-fits, within-sub}
use Rattle.config.proofs.Distances.{within}
use Rattle.replay_regression.proofs.same.Goals as goal

pub linear_regression-line-requires : goal.linear_regression-line-requires
linear_regression-line-requires c =
    let near : Within (2 ^ 51) (to_z w64 (of_z w64 c.args.intercept)) = record { size = omega arith } in
    record { by_index = λ i h. within-fits tt (within-sub (within _ (sym c.in_ok-check_times.ensures) i h) near) }
