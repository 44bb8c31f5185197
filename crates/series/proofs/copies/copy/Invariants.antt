use mathlib.Core.Path.{◌≡◌}
use lib.ListN.{take}
use Rattle.series.proofs.copies.copy.Given as goal

abbrev pub invariant-loop-i : goal.invariant-loop-i
invariant-loop-i g l = take l.i l.into ≡ take l.i l.from
