-- `value_rollups::holt_winters::holt_winters_internal` meets its contract: each test is one of the definition.
-- Assumes nothing.
use Rattle.ieee.proofs.Floats.{rest-values}
use Rattle.window.proofs.Window.{no-values, some-values}
use Rattle.value_rollups.specs.HoltWinters.{holt_winters_of}
use Rattle.value_rollups.proofs.holt_winters.holt_winters_internal.Goals as goal

pub returns-then-values-eq0 : goal.returns-then-values-eq0
unfolding holt_winters_of
returns-then-values-eq0 c = rw (no-values _ c.if-values-eq0.true)

pub returns-then-out_of_range : goal.returns-then-out_of_range
unfolding holt_winters_of
returns-then-out_of_range c = rw (some-values _ c.if-values-eq0.false, ← c.out_of_range.ensures, c.if-out_of_range.true) c.nan.ensures

pub returns-then-out_of_range-2 : goal.returns-then-out_of_range-2
unfolding holt_winters_of
returns-then-out_of_range-2 c = rw (some-values _ c.if-values-eq0.false, ← c.out_of_range.ensures, c.if-out_of_range.false, ← c.out_of_range-2.ensures, c.if-out_of_range-2.true) c.nan-then-out_of_range-2.ensures

pub returns-then-is_nan : goal.returns-then-is_nan
unfolding holt_winters_of
returns-then-is_nan c =
    rw (some-values _ c.if-values-eq0.false, ← c.out_of_range.ensures, c.if-out_of_range.false, ← c.out_of_range-2.ensures, c.if-out_of_range-2.false, ← c.is_nan.ensures, c.if-is_nan.true, ← c.first.ensures, rest-values, ← c.rest.ensures)
    c.smooth_from.ensures

pub returns : goal.returns
unfolding holt_winters_of
returns c =
    rw (some-values _ c.if-values-eq0.false, ← c.out_of_range.ensures, c.if-out_of_range.false, ← c.out_of_range-2.ensures, c.if-out_of_range-2.false, ← c.is_nan.ensures, c.if-is_nan.false)
    c.smooth_from-2.ensures
