-- `window::types::first` meets its contract: an empty window has no first value, and in another the slice gives its pattern.
-- Assumes nothing.
use mathlib.Core.Path.{sym, ◌∙◌}
use Rattle.window.proofs.Window.{first-pattern, no-first}
use Rattle.window.proofs.types.first.Goals as goal

pub returns-in-Some : goal.returns-in-Some
returns-in-Some c = c.value_of.ensures ∙ first-pattern _ _ c.in-Some.ensures.value

pub returns-in-None : goal.returns-in-None
returns-in-None c = c.nan.ensures ∙ sym (no-first _ c.in-None.ensures.value)
