use Rattle.std.proofs.Common.{◌≡◌, take}
use Rattle.std.specs.List.{count_by}
use Rattle.ieee.specs.Mark.{is_mark}
use Rattle.value_rollups.proofs.rollup_fns.rollup_stale_samples.Given as goal

abbrev pub invariant-loop-i : goal.invariant-loop-i
invariant-loop-i l = l.marks ≡ count_by is_mark (take l.i l.values)
