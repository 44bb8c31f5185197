-- `prepare::apply` meets its contract: the numbers are those of the values' patterns, as many as there are times.
-- Assumes nothing.
use mathlib.Core.Path.{sym, ◌∙◌}
use Rattle.ieee.proofs.Floats.{length-floats}
use Rattle.series.proofs.Accepted.{accepted-series}
use Rattle.prepare.proofs.apply.Goals as goal

pub apply_to-requires-clause-same : goal.apply_to-requires-clause-same
apply_to-requires-clause-same c =
    rw (c.times.ensures, c.finite_values.ensures) ((accepted-series _ _ c.args.series.now.accepted).same_length ∙ sym (length-floats c.args.series.now.values.now))

pub apply_to-requires-clause-room : goal.apply_to-requires-clause-room
apply_to-requires-clause-room c = rw c.finite_values.ensures (c.requires ∙ sym (length-floats c.args.series.now.values.now))

pub returns : goal.returns
returns c = rw (c.times.ensures, c.finite_values.ensures) at c.apply_to.ensures
