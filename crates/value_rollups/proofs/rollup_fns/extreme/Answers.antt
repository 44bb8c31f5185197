-- `value_rollups::rollup_fns::extreme` meets its contract: it folds `further` over the values.
-- Assumes nothing.
use mathlib.Core.Path.{◌≡◌, ◌∙◌}
use Prim.Native.Nat.{ℕ}
use borrow.Author.Rules.{rules}
use lib.Ieee.{Float, binary64, of_bits}
use Rattle.std.specs.List.{fold}
use Rattle.std.proofs.lemmas.Grind.{common_steps}
use Rattle.window.specs.Window.{further}
use Rattle.window.proofs.Folds.{fold-values}
use Rattle.value_rollups.proofs.rollup_fns.extreme.Goals as goal

pub returns : goal.returns
returns c =
    let step = further c.args.down in
    let e : c.fold.result ≡ fold (λ (s : Float) (b : ℕ). step s (of_bits binary64 b)) c.args.m c.args.values.now = search (rules, common_steps) in
    e ∙ fold-values step c.args.m c.args.values.now
