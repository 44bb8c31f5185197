-- `change_rollups::rollup_fns::slide_over` meets its contract: it folds `slide` over the values.
-- Assumes nothing.
use mathlib.Core.Path.{◌≡◌, ap, ◌∙◌}
use Prim.Native.Nat.{ℕ}
use borrow.Author.Rules.{rules}
use lib.Ieee.{Float, binary64, of_bits}
use Rattle.std.specs.List.{fold}
use Rattle.std.proofs.lemmas.Grind.{common_steps}
use Rattle.window.specs.Window.{zero_f}
use Rattle.window.proofs.Folds.{fold-values}
use Rattle.change_rollups.specs.RollupFns.{slide, slide_from}
use Rattle.change_rollups.proofs.rollup_fns.slide_over.Goals as goal

pub returns : goal.returns
unfolding slide_from
returns c =
    let step = slide c.args.down in
    let start : Float × Float = (c.args.prev_value, zero_f) in
    let e : c.fold-sum.result ≡ fold (λ (s : Float × Float) (b : ℕ). step s (of_bits binary64 b)) start c.args.values.now = search (rules, common_steps) in
    ap (λ (s : Float × Float). s.1) (e ∙ fold-values step start c.args.values.now)
