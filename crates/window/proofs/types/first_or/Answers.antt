-- `window::types::first_or` meets its contract: the slice gives its first item, or none.
-- Assumes nothing.
use mathlib.Core.Path.{◌∙◌}
use Rattle.window.proofs.Window.{first-given}
use Rattle.window.proofs.types.first_or.Goals as goal

pub returns : goal.returns
returns g c = (cc) ∙ first-given _ _
