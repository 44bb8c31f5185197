-- `search::Times::hinted_end` meets its contract: i is the answer's upper bound where the time there is after t, and the length always is.
-- Assumes nothing.
use native.Mathlib.Omega.{arith}
use Rattle.times.proofs.Later.{first-le}
use Rattle.times.proofs.search.Times.hinted_end.Goals as goal

pub returns-then-saturating_sub-le2 : goal.returns-then-saturating_sub-le2
returns-then-saturating_sub-le2 c = omega (arith, first-le c.args.self.now.slice.now c.args.t)

pub returns-else-is_after : goal.returns-else-is_after
returns-else-is_after c = omega (arith, first-le c.args.self.now.slice.now c.args.t)
