-- `value_rollups::rollup_fns::rollup_sum2` meets its contract: it folds the squares' addition over the values.
-- Assumes nothing.
use mathlib.Core.Path.{◌≡◌, ◌∙◌}
use Prim.Native.Nat.{ℕ}
use borrow.Author.Rules.{rules}
use lib.Ieee.{Float, binary64, of_bits}
use Rattle.std.specs.List.{fold}
use Rattle.std.proofs.lemmas.Grind.{common_steps}
use Rattle.window.specs.Window.{zero_f}
use Rattle.window.proofs.Window.{no-values, some-values}
use Rattle.window.proofs.Folds.{fold-values}
use Rattle.value_rollups.specs.RollupFns.{add_square, sum2_of}
use Rattle.value_rollups.proofs.rollup_fns.rollup_sum2.Goals as goal

pub returns-then-values-eq0 : goal.returns-then-values-eq0
unfolding sum2_of
returns-then-values-eq0 c = rw (no-values _ c.if-values-eq0.true) c.nan.ensures

pub returns : goal.returns
unfolding sum2_of
returns c =
    let e : c.fold.result ≡ fold (λ (s : Float) (b : ℕ). add_square s (of_bits binary64 b)) zero_f c.args.values.now = search (rules, common_steps) in
    rw (some-values _ c.if-values-eq0.false) (e ∙ fold-values add_square zero_f c.args.values.now)
