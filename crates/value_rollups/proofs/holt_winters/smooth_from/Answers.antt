-- `value_rollups::holt_winters::smooth_from` meets its contract: it folds `smooth` over the values.
-- Assumes nothing.
use mathlib.Core.Path.{◌≡◌, ap, ◌∙◌}
use Prim.Native.Nat.{ℕ}
use borrow.Author.Rules.{rules}
use lib.Ieee.{Float, binary64, of_bits, sub}
use Rattle.std.specs.List.{fold}
use Rattle.std.proofs.lemmas.Grind.{common_steps}
use Rattle.window.proofs.Window.{no-values, some-values}
use Rattle.window.proofs.Folds.{fold-values}
use Rattle.value_rollups.specs.HoltWinters.{smooth, smooth_from}
use Rattle.value_rollups.proofs.holt_winters.smooth_from.Goals as goal

pub returns-then-values-eq0 : goal.returns-then-values-eq0
unfolding smooth_from
returns-then-values-eq0 c = rw (no-values _ c.if-values-eq0.true) c.nan.ensures

pub returns : goal.returns
unfolding smooth_from
returns c =
    let step = smooth c.args.sf c.args.tf in
    let start : Float × Float = (c.args.s, sub binary64 c.first.result c.args.s) in
    let e : c.fold-level.result ≡ fold (λ (s : Float × Float) (b : ℕ). step s (of_bits binary64 b)) start c.args.values.now = search (rules, common_steps) in
    rw (some-values _ c.if-values-eq0.false, ← c.first.ensures) (ap (λ (s : Float × Float). s.0) (e ∙ fold-values step start c.args.values.now))
