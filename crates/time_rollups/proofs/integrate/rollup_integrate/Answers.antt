-- `time_rollups::integrate::rollup_integrate` meets its contract: the predecessor, or else the first reading, is where the area starts.
-- Assumes nothing.
use native.Mathlib.Omega.{arith}
use Prim.Native.Nat.{◌+◌}
use lib.Seq.{get_or-drop}
use lib.IntN.{pos}
use mir.Facts.{to_z-of_z}
use Rattle.times.proofs.Milli.{read_back}
use Rattle.window.specs.Window.{first_or}
use Rattle.window.specs.Types.{InRange}
use Rattle.ieee.proofs.Floats.{rest-values}
use Rattle.window.proofs.Window.{no-values, some-values}
use Rattle.window.proofs.Times.{back, difference-fits, first-ranged}
use Rattle.time_rollups.specs.Integrate.{integrate_of}
use Rattle.time_rollups.proofs.integrate.rollup_integrate.Goals as goal

pub returns-then-values-eq0 : goal.returns-then-values-eq0
unfolding integrate_of
returns-then-values-eq0 c = rw (← c.is_nan.ensures, c.if-is_nan.true, no-values _ c.if-values-eq0.true) c.nan.ensures

pub area-requires-clause-start : goal.area-requires-clause-start
area-requires-clause-start c =
    let f : InRange (first_or (pos 0) c.args.ranged.now.timestamps.now) = first-ranged c.args.ranged.now.in_range in
    rw (read_back c.first_or.result c.first_or.type_inv, c.first_or.ensures) (omega (arith, f))

pub area-requires-clause-times : goal.area-requires-clause-times
area-requires-clause-times c = λ i. rw (c.rest-then-is_nan.ensures, get_or-drop 1 c.args.ranged.now.timestamps.now i (pos 0)) (c.args.ranged.now.in_range.times (1 + i))

pub returns-then-is_nan : goal.returns-then-is_nan
unfolding integrate_of
returns-then-is_nan c =
    rw (← c.is_nan.ensures, c.if-is_nan.true, some-values _ c.if-values-eq0.false, ← c.first.ensures, ← c.first_or.ensures, rest-values, ← c.rest.ensures, ← c.rest-then-is_nan.ensures)
    (rw (read_back c.first_or.result c.first_or.type_inv, back c.args.ranged.now.rfa.curr_timestamp c.args.ranged.now.in_range.curr) at c.area.ensures)

pub returns : goal.returns
unfolding integrate_of
returns c =
    let r = c.args.ranged.now.rfa in
    let h = c.args.ranged.now.in_range in
    rw (← c.is_nan.ensures, c.if-is_nan.false)
    (simp (back r.curr_timestamp h.curr, back r.window h.window, to_z-of_z (difference-fits r.curr_timestamp r.window (omega (arith, h.curr, h.window)))) at c.area-2.ensures)
