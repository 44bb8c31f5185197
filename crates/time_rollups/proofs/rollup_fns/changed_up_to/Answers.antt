-- `time_rollups::rollup_fns::changed_up_to` meets its contract: `differing_up_to` counts among the values before the last.
-- Assumes nothing.
use mathlib.Core.Path.{ap}
use native.Mathlib.Omega.{arith}
use Prim.Native.Nat.{◌-◌, ◌≤◌}
use lib.ListN.{length}
use lib.Seq.{length-take-le}
use Rattle.ieee.specs.Patterns.{floats}
use Rattle.window.proofs.Searches.{up-to-within}
use Rattle.ieee.proofs.Floats.{length-floats, take-values}
use Rattle.time_rollups.proofs.rollup_fns.changed_up_to.Goals as goal

pub returns : goal.returns
returns c =
    let l = c.args.values.now in
    let front = c.init.result.now in
    let h : c.differing_up_to.result ≤ length (floats front) = rw c.differing_up_to.ensures (up-to-within _ _) in
    record {
      counted = rw (length-floats, take-values, ← c.init.ensures, ← c.last.ensures) c.differing_up_to.ensures;
      within = omega (arith, h, length-floats front, ap length c.init.ensures, length-take-le (length l - 1) l (omega arith));
    }
