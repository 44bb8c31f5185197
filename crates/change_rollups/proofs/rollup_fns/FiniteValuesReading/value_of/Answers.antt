-- `change_rollups::rollup_fns::FiniteValues::value_of` meets its contract: a finite value is no NaN.
-- Assumes nothing.
use Rattle.ieee.proofs.Numbers.{finite_number}
use Rattle.change_rollups.proofs.rollup_fns.FiniteValuesReading.value_of.Goals as goal

pub number_of-requires : goal.number_of-requires
number_of-requires c = finite_number _ c.requires
