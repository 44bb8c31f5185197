-- `value_rollups::rollup_fns::total` meets its contract: it folds the addition over the values.
-- Assumes nothing.
use mathlib.Core.Path.{◌≡◌, ◌∙◌}
use Prim.Native.Nat.{ℕ}
use borrow.Author.Rules.{rules}
use lib.Ieee.{Float, binary64, of_bits, add}
use Rattle.std.specs.List.{fold}
use Rattle.std.proofs.lemmas.Grind.{common_steps}
use Rattle.window.specs.Window.{zero_f}
use Rattle.window.proofs.Folds.{fold-values}
use Rattle.value_rollups.specs.RollupFns.{total_of}
use Rattle.value_rollups.proofs.rollup_fns.total.Goals as goal

pub returns : goal.returns
unfolding total_of
returns c =
    let e : c.fold.result ≡ fold (λ (s : Float) (b : ℕ). add binary64 s (of_bits binary64 b)) zero_f c.args.values.now = search (rules, common_steps) in
    e ∙ fold-values (add binary64) zero_f c.args.values.now
