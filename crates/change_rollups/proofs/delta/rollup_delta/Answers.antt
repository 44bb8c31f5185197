-- `change_rollups::delta::rollup_delta` meets its contract: each test is one of the definition.
-- Assumes nothing.
use Rattle.ieee.proofs.Floats.{rest-values}
use Rattle.window.proofs.Window.{no-values, some-values}
use Rattle.change_rollups.specs.Delta.{delta_of}
use Rattle.change_rollups.proofs.delta.rollup_delta.Goals as goal

pub returns-then-values-eq0 : goal.returns-then-values-eq0
unfolding delta_of
returns-then-values-eq0 c = rw (← c.is_nan.ensures, c.if-is_nan.true, no-values _ c.if-values-eq0.true) c.nan.ensures

pub returns-then-starts_low : goal.returns-then-starts_low
unfolding delta_of
returns-then-starts_low c =
    rw (← c.is_nan.ensures, c.if-is_nan.true, some-values _ c.if-values-eq0.false, ← c.is_nan-then-is_nan.ensures, c.if-is_nan-2.true, ← c.starts_low.ensures, c.if-starts_low.true)
    c.delta_from.ensures

pub returns-then-is_nan-2 : goal.returns-then-is_nan-2
unfolding delta_of
returns-then-is_nan-2 c =
    rw (← c.is_nan.ensures, c.if-is_nan.true, some-values _ c.if-values-eq0.false, ← c.is_nan-then-is_nan.ensures, c.if-is_nan-2.true, ← c.starts_low.ensures, c.if-starts_low.false, ← c.first.ensures, rest-values, ← c.rest.ensures)
    c.delta_from-then-is_nan-2.ensures

pub returns-then-is_nan : goal.returns-then-is_nan
unfolding delta_of
returns-then-is_nan c = rw (← c.is_nan.ensures, c.if-is_nan.true, some-values _ c.if-values-eq0.false, ← c.is_nan-then-is_nan.ensures, c.if-is_nan-2.false, ← c.last.ensures)

pub returns : goal.returns
unfolding delta_of
returns c = rw (← c.is_nan.ensures, c.if-is_nan.false) c.delta_from-2.ensures
