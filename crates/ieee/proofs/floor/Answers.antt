-- `ieee::floor` meets its contract: std's floor is `floor_of`.
-- Assumes nothing.
use Rattle.std.proofs.Common.{◌∙◌}
use denote.Floats.{passes}
use Rattle.ieee.proofs.Floors.{floor-is}
use Rattle.ieee.proofs.floor.Goals as goal

pub returns : goal.returns
returns c = c.floor.ensures ∙ floor-is c.args.x (passes _ c.well_formed.0.1)
