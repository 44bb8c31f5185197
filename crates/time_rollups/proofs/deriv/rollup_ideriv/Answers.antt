-- `time_rollups::deriv::rollup_ideriv` meets its contract: `count_up_to` finds the reading before the last time, and the tests choose where it starts.
-- Assumes nothing.
use mathlib.Core.Path.{◌≡◌}
use native.Mathlib.Omega.{arith}
use Prim.Native.Nat.{◌-◌, ◌≤◌, ◌<◌}
use Prim.Native.Nat.{ℕ, ◌^◌}
use mathlib.Core.List.{List}
use lib.IntN.{ℤ, pos}
use lib.Signed.{lt_z, mag}
use lib.ListN.{length, get_or}
use lib.Ieee.{nan}
use mir.Syntax.{w64}
use mir.Val.{of_z, to_z}
use Rattle.window.specs.Window.{last_or, up_to_last}
use borrow.Author.Rules.{rules}
use borrow.Author.Tests.{lt-ltb, le-ltb}
use Rattle.times.proofs.Milli.{read_back}
use Rattle.window.proofs.Searches.{up-to-within}
use Rattle.ieee.proofs.Floats.{length-floats, get_or-floats}
use Rattle.window.proofs.Window.{no-values, some-values, zero-eqb, pos-eqb}
use Rattle.window.proofs.Times.{back}
use Rattle.time_rollups.specs.Deriv.{earlier, ideriv_of}
use Rattle.time_rollups.proofs.deriv.rollup_ideriv.Goals as goal

counted : (ts : List ℤ) (t : ℤ) (n : ℕ) → n ≡ up_to_last (λ (s : ℤ). lt_z s (to_z w64 (of_z w64 t))) ts → mag t < 2 ^ 63 → t ≡ last_or (pos 0) ts → n ≡ earlier ts
counted ts t n e f l = rw (read_back t f, l) at e

within : (ts : List ℤ) (n : ℕ) → n ≡ earlier ts → n ≤ length ts
within ts n e = rw e (up-to-within _ _)

pub returns-then-values-eq0 : goal.returns-then-values-eq0
unfolding ideriv_of
returns-then-values-eq0 c = rw (no-values _ c.if-values-eq0.true) c.nan.ensures

pub value_at-requires : goal.value_at-requires
value_at-requires c = omega (arith, within _ _ (counted _ _ _ c.count_up_to-count.ensures c.last_or.type_inv c.last_or.ensures), c.requires.lengths)

pub bounds-timestamps-count : goal.bounds-timestamps-count
bounds-timestamps-count c = omega (arith, within _ _ (counted _ _ _ c.count_up_to-count.ensures c.last_or.type_inv c.last_or.ensures))

pub offset_bounds-timestamps-count : goal.offset_bounds-timestamps-count
offset_bounds-timestamps-count c = omega (arith, within _ _ (counted _ _ _ c.count_up_to-count.ensures c.last_or.type_inv c.last_or.ensures))

pub returns-then-count-gt0 : goal.returns-then-count-gt0
unfolding ideriv_of
returns-then-count-gt0 c =
    let l = c.args.ranged.now.values.now in
    let n = c.count_up_to-count.result in
    let h : n - 1 < length l = omega (arith, within _ _ (counted _ _ _ c.count_up_to-count.ensures c.last_or.type_inv c.last_or.ensures), c.requires.lengths) in
    rw (some-values _ c.if-values-eq0.false, ← counted _ _ _ c.count_up_to-count.ensures c.last_or.type_inv c.last_or.ensures, pos-eqb n c.if-count-gt0.true, get_or-floats l (n - 1) nan h, ← c.value_at.ensures)
    (rw (read_back (get_or c.args.ranged.now.timestamps.now (n - 1) (pos 0)) (search rules)) at c.slope.ensures)

pub returns-then-values-lt2 : goal.returns-then-values-lt2
unfolding ideriv_of
returns-then-values-lt2 c =
    rw (some-values _ c.if-values-eq0.false, ← counted _ _ _ c.count_up_to-count.ensures c.last_or.type_inv c.last_or.ensures, zero-eqb _ c.if-count-gt0.false, ← c.is_nan.ensures, c.if-is_nan.true, length-floats, lt-ltb _ _ c.if-values-lt2.true)
    c.nan-then-values-lt2.ensures

pub returns-then-is_nan : goal.returns-then-is_nan
unfolding ideriv_of
returns-then-is_nan c = rw (some-values _ c.if-values-eq0.false, ← counted _ _ _ c.count_up_to-count.ensures c.last_or.type_inv c.last_or.ensures, zero-eqb _ c.if-count-gt0.false, ← c.is_nan.ensures, c.if-is_nan.true, length-floats, le-ltb _ _ c.if-values-lt2.false)

pub returns : goal.returns
unfolding ideriv_of
returns c =
    rw (some-values _ c.if-values-eq0.false, ← counted _ _ _ c.count_up_to-count.ensures c.last_or.type_inv c.last_or.ensures, zero-eqb _ c.if-count-gt0.false, ← c.is_nan.ensures, c.if-is_nan.false)
    (rw (back c.args.ranged.now.rfa.prev_timestamp c.args.ranged.now.in_range.prev) at c.slope-2.ensures)
