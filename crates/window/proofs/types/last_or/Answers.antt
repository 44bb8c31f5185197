-- `window::types::last_or` meets its contract: the slice gives its last item, or none.
-- Assumes nothing.
use mathlib.Core.Path.{◌∙◌}
use Rattle.window.proofs.Window.{last-given}
use Rattle.window.proofs.types.last_or.Goals as goal

pub returns : goal.returns
returns g c = (cc) ∙ last-given _ _
