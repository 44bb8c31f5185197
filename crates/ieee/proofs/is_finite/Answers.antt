-- `ieee::is_finite` meets its contract. With the sign's bit taken off, the patterns of finite values are the numbers below the infinity's.
-- Assumes nothing.
use Rattle.ieee.proofs.Patterns.{finite-below}
use Rattle.ieee.proofs.is_finite.Goals as goal

pub returns : goal.returns
returns c = finite-below c.args.b
