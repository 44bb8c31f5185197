-- `prepare::apply_to` meets its contract: each arm's step is the definition's.
-- Assumes nothing.
use mathlib.Core.Path.{sym, ◌∙◌}
use Rattle.series.proofs.Accepted.{accepted-times}
use Rattle.steps.specs.Steps.{prepared_of}
use Rattle.prepare.proofs.apply_to.Goals as goal

pub deriv_values-requires : goal.deriv_values-requires
deriv_values-requires g c = (c.requires.same, c.requires.room, (accepted-times _ c.args.times.now.accepted).all_inside)

pub calc_sample_intervals_pre_fn-requires : goal.calc_sample_intervals_pre_fn-requires
calc_sample_intervals_pre_fn-requires g c = c.requires.room ∙ sym c.requires.same

pub returns-in-None : goal.returns-in-None
unfolding prepared_of
returns-in-None g c = rw c.in-None.is c.write_to.ensures

pub returns-in-Resets : goal.returns-in-Resets
unfolding prepared_of
returns-in-Resets g c = rw c.in-Resets.is c.remove_counter_resets.ensures

pub returns-in-Delta : goal.returns-in-Delta
unfolding prepared_of
returns-in-Delta g c = rw c.in-Delta.is c.delta_values.ensures

pub returns-in-Deriv : goal.returns-in-Deriv
unfolding prepared_of
returns-in-Deriv g c = rw c.in-Deriv.is c.deriv_values.ensures

pub returns-in-Intervals : goal.returns-in-Intervals
unfolding prepared_of
returns-in-Intervals g c = rw c.in-Intervals.is c.calc_sample_intervals_pre_fn.ensures

pub returns-in-ResetsOnce : goal.returns-in-ResetsOnce
unfolding prepared_of
returns-in-ResetsOnce g c = rw c.in-ResetsOnce.is c.remove_counter_resets_once.ensures
