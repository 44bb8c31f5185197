use Prim.Native.Nat.{◌+◌, ◌<◌}
use mathlib.Core.Path.{◌≡◌}
use lib.ListN.{length}
use Rattle.crossings.specs.Crossings.{crossing_indexes}
use Rattle.crossings.proofs.Indexes.{left}
use Rattle.crossings.proofs.listed.Sides.count.Given as goal

abbrev pub invariant-loop-i : goal.invariant-loop-i
invariant-loop-i l =
    (l.n < l.i) × (length (crossing_indexes l.self.limit l.self.values.slice.now) ≡ l.n + length (left l.self.limit l.self.values.slice.now l.i))
