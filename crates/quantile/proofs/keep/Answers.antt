-- `quantile::keep` meets its contract. At each turn what is found so far stands at the front, and what is to come is found of the rest.
-- Assumes nothing.
use mathlib.Core.Path.{sym, ◌∙◌}
use Prim.Native.Nat.{◌≤◌, ◌<◌, ◌^◌}
use native.Mathlib.Omega.{arith}
use borrow.Author.Rules.{rules}
use lib.ListN.{length, get_or}
use Rattle.quantile.proofs.Kept.{keeping_start, keeping-more, keeping-on, keeping-end}
use Rattle.quantile.proofs.keep.Goals as goal
use Rattle.quantile.proofs.keep.Goals.{in-Some, in_default}

pub loop-b-init : goal.loop-b-init
loop-b-init g c = record { few = omega arith; keeping = λ of h. keeping_start of c.args.values.now c.args.work.now }

pub loop-b-preserved : goal.loop-b-preserved
loop-b-preserved g c =
    let vs = c.args.values.now in
    let l = c.loop-b in
    let inside = c.loop-b-test.true in
    let small : get_or vs l.b-index 0 < 2 ^ 64 = search rules in
    let room : l.n < length c.args.work.now = omega (arith, inside, l.invariant.few, c.requires.room) in
    elim c.match-find.branch [
      | in-Some w ↦ rw (w.work-is, w.n-is) (record {
        few = omega (arith, l.invariant.few);
        keeping = λ of h. keeping-more of vs c.args.work.now l.work l.n l.b-index (l.invariant.keeping of h) inside w.in-Some.x (sym w.in-Some.is ∙ h (get_or vs l.b-index 0) c.find.result small c.find.ensures) room;
      })
      | in_default w ↦ rw (w.work-is, w.n-is) (record {
        few = omega (arith, l.invariant.few);
        keeping = λ of h. keeping-on of vs c.args.work.now l.work l.n l.b-index (l.invariant.keeping of h) inside (sym w.in_default.is ∙ h (get_or vs l.b-index 0) c.find.result small c.find.ensures);
      })
    ]

pub returns : goal.returns
returns g c =
    let l = c.loop-b in
    let few : l.n ≤ length c.args.values.now = omega (arith, l.invariant.few, l.auto.b-index-end) in
    let room : l.n ≤ length c.args.work.now = omega (arith, few, c.requires.room) in
    record {
      few = few;
      value = λ of h. (keeping-end of c.args.values.now c.args.work.now l.work l.n l.b-index (l.invariant.keeping of h) c.loop-b-test.false room).0;
      work_after = λ of h. (keeping-end of c.args.values.now c.args.work.now l.work l.n l.b-index (l.invariant.keeping of h) c.loop-b-test.false room).1;
    }
