-- `crossings::listed::Sides::count` meets its contract. Before turn i, n crossings are counted, and those from i on are the others.
-- Assumes nothing.
use Prim.Native.Nat.{◌+◌, ◌<◌}
use mathlib.Core.List.{◌∷◌}
use mathlib.Core.Path.{◌≡◌, sym, ap, ◌∙◌}
use native.Mathlib.Omega.{arith}
use lib.ListN.{length}
use Rattle.crossings.proofs.Indexes.{left, all_left, left-crossing, left_other}
use Rattle.crossings.proofs.listed.Sides.count.Goals as goal
use Rattle.crossings.proofs.listed.Sides.count.Goals.{then-is_crossing, else-is_crossing}

pub loop-i-init : goal.loop-i-init
loop-i-init c = (omega arith, omega (arith, ap length (all_left c.args.self.now.limit c.args.self.now.values.slice.now)))

pub loop-i-preserved : goal.loop-i-preserved
loop-i-preserved c =
    let limit = c.args.self.now.limit in
    let vs = c.args.self.now.values.slice.now in
    let i = c.loop-i.i in
    let inv = c.loop-i.invariant in
    let within : i < length vs = c.loop-i-test.true in
    elim c.if-is_crossing.branch [
      | then-is_crossing w ↦
          let next : left limit vs i ≡ i ∷ left limit vs (i + 1) = left-crossing limit vs i within (sym c.is_crossing.ensures ∙ w.if-is_crossing.true) in
          (omega (arith, w.n-is), omega (arith, w.n-is, inv.1, ap length next))
      | else-is_crossing w ↦
          let next : left limit vs i ≡ left limit vs (i + 1) = left_other limit vs i within (sym c.is_crossing.ensures ∙ w.if-is_crossing.false) in
          (omega (arith, w.n-is), omega (arith, w.n-is, inv.1, ap length next))
    ]
