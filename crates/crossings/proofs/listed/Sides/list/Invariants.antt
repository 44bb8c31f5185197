use Prim.Native.Nat.{◌+◌}
use mathlib.Core.Path.{◌≡◌}
use lib.ListN.{length}
use Rattle.times.proofs.Written.{Written}
use Rattle.crossings.specs.Crossings.{crossing_indexes}
use Rattle.crossings.proofs.Indexes.{left}
use Rattle.crossings.proofs.listed.Sides.list.Given as goal

abbrev pub invariant-loop-i : goal.invariant-loop-i
invariant-loop-i l =
    (l.k + length (left l.self.limit l.self.values.slice.now l.i) ≡ length l.initial.indexes)
    × Written (length l.initial.indexes) l.k l.indexes (left l.self.limit l.self.values.slice.now l.i) (crossing_indexes l.self.limit l.self.values.slice.now)
