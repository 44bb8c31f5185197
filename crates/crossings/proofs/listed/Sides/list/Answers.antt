-- `crossings::listed::Sides::list` meets its contract. Before each turn the indexes of k crossings are written, and those from i on are to be written yet.
-- Assumes nothing.
use Prim.Native.Nat.{ℕ, ◌+◌, ◌<◌}
use mathlib.Core.List.{List, [], ◌∷◌}
use mathlib.Core.Path.{◌≡◌, refl, sym, ap, ◌∙◌}
use native.Mathlib.Omega.{arith}
use lib.ListN.{length}
use Rattle.times.proofs.Written.{kept, turn}
use Rattle.crossings.proofs.Indexes.{left, all_left, left-crossing, left_other}
use Rattle.crossings.proofs.listed.Sides.list.Goals as goal
use Rattle.crossings.proofs.listed.Sides.list.Goals.{then-is_crossing, else-is_crossing}

none_left : (l : List ℕ) → length l ≡ 0 → l ≡ []
none_left [] e = refl
none_left (x ∷ l) e = absurd (omega arith)

pub loop-i-init : goal.loop-i-init
loop-i-init c =
    let whole = all_left c.args.self.now.limit c.args.self.now.values.slice.now in
    (omega (arith, c.requires, ap length whole), record { size = refl; parts = sym whole })

pub loop-i-preserved : goal.loop-i-preserved
loop-i-preserved c =
    let limit = c.args.self.now.limit in
    let vs = c.args.self.now.values.slice.now in
    let i = c.loop-i.i in
    let inv = c.loop-i.invariant in
    let within : i < length vs = c.loop-i-test.true in
    let room : c.loop-i.k < length c.args.indexes.now = omega (arith, c.if-k-indexes.false, inv.0, inv.1.size) in
    elim c.if-is_crossing.branch [
      | then-is_crossing w ↦
          let next : left limit vs i ≡ i ∷ left limit vs (i + 1) = left-crossing limit vs i within (sym c.is_crossing.ensures ∙ w.if-is_crossing.true) in
          (omega (arith, w.k-is, inv.0, ap length next), rw w.k-is (turn room (rw next at inv.1) refl))
      | else-is_crossing w ↦
          let next : left limit vs i ≡ left limit vs (i + 1) = left_other limit vs i within (sym c.is_crossing.ensures ∙ w.if-is_crossing.false) in
          (omega (arith, w.k-is, inv.0, ap length next), rw w.k-is (kept i (rw next at inv.1)))
    ]
