-- `time_rollups::rollup_fns::rollup_tlast_change` meets its contract: the count says from which time the values are equal, and the predecessor decides where all are.
-- Assumes nothing.
use mathlib.Core.Path.{◌≡◌}
use native.Mathlib.Omega.{arith}
use borrow.Author.Rules.{rules}
use lib.IntN.{pos}
use lib.ListN.{get_or}
use Rattle.times.proofs.Milli.{read_back}
use Rattle.window.proofs.Window.{no-values, some-values, pos-eqb, first-at}
use Rattle.time_rollups.specs.RollupFns.{tlast_change_of}
use Rattle.time_rollups.proofs.rollup_fns.rollup_tlast_change.Goals as goal

pub returns-then-values-eq0 : goal.returns-then-values-eq0
unfolding tlast_change_of
returns-then-values-eq0 c = rw (no-values _ c.if-values-eq0.true) c.nan.ensures

pub returns-then-i-gt0 : goal.returns-then-i-gt0
unfolding tlast_change_of
returns-then-i-gt0 c =
    rw (some-values _ c.if-values-eq0.false, ← c.changed_up_to-i.ensures.counted, pos-eqb _ c.if-i-gt0.true)
    (rw (read_back (get_or c.args.timestamps.now c.changed_up_to-i.result (pos 0)) (search rules)) at c.seconds.ensures)

pub returns-then-rfa-last_value : goal.returns-then-rfa-last_value
unfolding tlast_change_of
returns-then-rfa-last_value c =
    let z : c.changed_up_to-i.result ≡ 0 = omega (arith, c.if-i-gt0.false) in
    rw (some-values _ c.if-values-eq0.false, ← c.changed_up_to-i.ensures.counted, z, ← c.last-last_value.ensures, c.if-rfa-last_value.true) c.nan-then-rfa-last_value.ensures

pub returns : goal.returns
unfolding tlast_change_of
returns c =
    let z : c.changed_up_to-i.result ≡ 0 = omega (arith, c.if-i-gt0.false) in
    rw (some-values _ c.if-values-eq0.false, ← c.changed_up_to-i.ensures.counted, z, ← c.last-last_value.ensures, c.if-rfa-last_value.false, ← first-at (pos 0) c.args.timestamps.now, ← c.first_or.ensures)
    (rw (read_back c.first_or.result c.first_or.type_inv) at c.seconds-2.ensures)
