use mathlib.Core.List.{foldl}
use Prim.Native.Nat.{◌*◌, ◌≤◌}
use Rattle.window.specs.Types.{record_limit}
use lib.IntN.{nat_abs}
use lib.ListN.{drop}
use Rattle.ieee.specs.Patterns.{floats}
use Rattle.window.specs.Window.{readings, zero_f}
use Rattle.time_rollups.specs.Integrate.{extend}
use Rattle.time_rollups.proofs.Pairs.{Left}
use Rattle.time_rollups.proofs.integrate.area.Given as goal

abbrev pub invariant-loop-i : goal.invariant-loop-i
invariant-loop-i l =
    Left extend (foldl extend (record { value = l.v; time = l.t; sum = zero_f }) (readings (floats l.values) l.timestamps))
    (record { value = l.prev_value; time = l.prev_timestamp; sum = l.sum }) (drop l.i l.values) (drop l.i l.timestamps)
    × (nat_abs l.prev_timestamp ≤ 2 * record_limit)
