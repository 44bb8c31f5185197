-- `value_rollups::rollup_fns::rollup_rate_over_sum` meets its contract: it divides what `total` gives by the seconds of the window.
-- Assumes nothing.
use mathlib.Core.Path.{refl}
use borrow.Author.Rules.{rules}
use Rattle.times.proofs.Milli.{read_back}
use Rattle.window.proofs.Window.{no-values, some-values}
use Rattle.value_rollups.specs.RollupFns.{rate_over_sum_of}
use Rattle.value_rollups.proofs.rollup_fns.rollup_rate_over_sum.Goals as goal

pub returns-then-values-eq0 : goal.returns-then-values-eq0
unfolding rate_over_sum_of
returns-then-values-eq0 c = rw (no-values _ c.if-values-eq0.true) c.nan.ensures

pub returns : goal.returns
unfolding rate_over_sum_of
returns c = rw (some-values _ c.if-values-eq0.false, ← c.total.ensures, c.seconds.ensures, read_back c.args.rfa.window (search rules)) refl
