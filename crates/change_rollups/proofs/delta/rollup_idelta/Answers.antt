-- `change_rollups::delta::rollup_idelta` meets its contract: the tests choose what is taken from the last value.
-- Assumes nothing.
use native.Mathlib.Omega.{arith}
use Prim.Native.Nat.{◌-◌, ◌<◌}
use lib.ListN.{length}
use lib.Ieee.{nan}
use borrow.Author.Tests.{eq-eqb, ne_eqb}
use Rattle.ieee.proofs.Floats.{length-floats, get_or-floats}
use Rattle.window.proofs.Window.{no-values, some-values}
use Rattle.change_rollups.specs.Delta.{idelta_of}
use Rattle.change_rollups.proofs.delta.rollup_idelta.Goals as goal

pub returns-then-is_nan : goal.returns-then-is_nan
unfolding idelta_of
returns-then-is_nan c = rw (no-values _ c.if-values-eq0.true, ← c.is_nan.ensures, c.if-is_nan.true) c.nan.ensures

pub returns-then-values-eq0 : goal.returns-then-values-eq0
unfolding idelta_of
returns-then-values-eq0 c = rw (no-values _ c.if-values-eq0.true, ← c.is_nan.ensures, c.if-is_nan.false)

pub returns-then-is_nan-2 : goal.returns-then-is_nan-2
unfolding idelta_of
returns-then-is_nan-2 c = rw (some-values _ c.if-values-eq0.false, length-floats, eq-eqb _ _ c.if-values-eq1.true, ← c.is_nan-then-values-eq1.ensures, c.if-is_nan-2.true) c.last.ensures

pub returns-then-values-eq1 : goal.returns-then-values-eq1
unfolding idelta_of
returns-then-values-eq1 c = rw (some-values _ c.if-values-eq0.false, length-floats, eq-eqb _ _ c.if-values-eq1.true, ← c.is_nan-then-values-eq1.ensures, c.if-is_nan-2.false, ← c.last-then-values-eq1.ensures)

pub returns : goal.returns
unfolding idelta_of
returns c =
    let l = c.args.values.now in
    let h : length l - 2 < length l = omega (arith, c.if-values-eq0.false) in
    rw (some-values _ c.if-values-eq0.false, length-floats, ne_eqb _ _ c.if-values-eq1.false, ← c.last-2.ensures, get_or-floats l (length l - 2) nan h, ← c.value_at.ensures)
