-- `value_rollups::rollup_fns::rollup_range` meets its contract: it folds `further` over the values, up and down.
-- Assumes nothing.
use mathlib.Core.Bool.{true, false}
use mathlib.Core.Path.{◌≡◌, ap, ◌∙◌}
use Prim.Native.Nat.{ℕ}
use borrow.Author.Rules.{rules}
use lib.Ieee.{Float, binary64, of_bits, sub}
use Rattle.std.specs.List.{fold}
use Rattle.std.proofs.lemmas.Grind.{common_steps}
use Rattle.window.specs.Window.{further}
use Rattle.window.proofs.Window.{no-values, some-values}
use Rattle.window.proofs.Folds.{fold-both}
use Rattle.value_rollups.specs.RollupFns.{range_of}
use Rattle.value_rollups.proofs.rollup_fns.rollup_range.Goals as goal

pub returns-then-values-eq0 : goal.returns-then-values-eq0
unfolding range_of
returns-then-values-eq0 c = rw (no-values _ c.if-values-eq0.true) c.nan.ensures

pub returns : goal.returns
unfolding range_of
returns c =
    let m = c.first-start.result in
    let l = c.args.values.now in
    let e : c.fold-max.result ≡ fold {B = Float × Float} (λ (s : Float × Float) (b : ℕ). (further false s.0 (of_bits binary64 b), further true s.1 (of_bits binary64 b))) (m, m) l = search (rules, common_steps) in
    let both = e ∙ fold-both (further false) (further true) m m l in
    rw (some-values _ c.if-values-eq0.false, ← c.first-start.ensures) (ap (λ (s : Float × Float). sub binary64 s.0 s.1) both)
