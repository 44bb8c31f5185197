-- `replay_search::index_after` is safe: accepted times do not fall.
-- Assumes nothing.
use mathlib.Core.Path.{sym}
use Rattle.config.proofs.Distances.{not-falling}
use Rattle.replay_search.proofs.index_after.Goals as goal

pub invariant_of-times : goal.invariant_of-times
invariant_of-times c = record { not_falling = not-falling _ (sym c.in_ok-check_times.ensures) }
