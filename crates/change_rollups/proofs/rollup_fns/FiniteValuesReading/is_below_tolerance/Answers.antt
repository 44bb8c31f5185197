-- `change_rollups::rollup_fns::FiniteValues::is_below_tolerance` meets its contract: it is the definition, and neither value nor step is NaN.
-- Assumes nothing.
use lib.Ieee.{binary64}
use Rattle.ieee.proofs.Numbers.{finite_number, sub_number}
use Rattle.change_rollups.proofs.rollup_fns.FiniteValuesReading.is_below_tolerance.Goals as goal

pub magnitude-tolerance-requires : goal.magnitude-tolerance-requires
magnitude-tolerance-requires c = finite_number _ c.requires.value

pub magnitude-requires : goal.magnitude-requires
magnitude-requires c = sub_number binary64 _ _ (finite_number _ c.requires.value) c.requires.before
