-- `root::sqrt` meets its contract: std's square root is `sqrt_of`.
-- Assumes nothing.
use mathlib.Core.Path.{◌∙◌}
use denote.Floats.{passes}
use Rattle.root.proofs.Std.{sqrt-is}
use Rattle.root.proofs.sqrt.Goals as goal

pub returns : goal.returns
returns c = c.sqrt.ensures.value ∙ sqrt-is c.args.x (passes _ c.well_formed.0.1)
