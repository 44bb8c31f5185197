-- `rollup::choice::rollup_of` meets its contract. Each number is the rollup's place in the list, and 50 and more lie past its end.
-- Assumes nothing.
use Prim.Native.Nat.{◌≤◌}
use native.Mathlib.Omega.{arith}
use mathlib.Core.Path.{sym}
use Rattle.std.proofs.lemmas.Option.{slice_get_past}
use Rattle.rollup.specs.Choice.{rollups}
use Rattle.rollup.proofs.choice.rollup_of.Goals as goal

pub returns-in_default : goal.returns-in_default
returns-in_default c =
    let past : 50 ≤ c.args.number = omega arith in
    sym (slice_get_past (rollups c.args.first c.args.second) c.args.number past)
