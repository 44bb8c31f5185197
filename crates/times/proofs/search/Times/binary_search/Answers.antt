use native.Mathlib.Omega.{arith}
use Rattle.times.proofs.Later.{first-le}
use Rattle.times.proofs.search.Times.binary_search.Goals as goal

pub loop-low-init : goal.loop-low-init
loop-low-init c = omega (arith, first-le c.args.self.now.slice.now)
