-- `search::Times::binary_search` meets its contract: the answer stays from low to high, whose distance falls at each turn.
-- Assumes nothing.
use Prim.Native.Nat.{◌≤◌, ◌-◌}
use lib.ListN.{length}
use Rattle.times.specs.Later.{first_after}
use Rattle.times.proofs.search.Times.binary_search.Given as goal

abbrev pub invariant-loop-low : goal.invariant-loop-low
invariant-loop-low l =
    (l.low ≤ first_after l.self.slice.now l.t) × (first_after l.self.slice.now l.t ≤ l.high) × (l.high ≤ length l.self.slice.now)

abbrev pub decreases-loop-low : goal.decreases-loop-low
decreases-loop-low l = l.high - l.low
