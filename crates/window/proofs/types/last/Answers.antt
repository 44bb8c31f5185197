-- `window::types::last` meets its contract: an empty window has no last value, and in another the slice gives its pattern.
-- Assumes nothing.
use mathlib.Core.Path.{sym, ◌∙◌}
use Rattle.window.proofs.Window.{last-pattern, no-last}
use Rattle.window.proofs.types.last.Goals as goal

pub returns-in-Some : goal.returns-in-Some
returns-in-Some c = c.value_of.ensures ∙ last-pattern _ _ c.in-Some.ensures.value

pub returns-in-None : goal.returns-in-None
returns-in-None c = c.nan.ensures ∙ sym (no-last _ c.in-None.ensures.value)
