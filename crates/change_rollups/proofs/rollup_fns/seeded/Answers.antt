-- `change_rollups::rollup_fns::seeded` meets its contract: the predecessor, or else the first value, is where f starts.
-- Assumes nothing.
use mathlib.Core.Bool.{true, false}
use mathlib.Core.Logic.{◌⊎◌, inl, inr}
use mathlib.Core.Path.{◌≡◌, ◌∙◌}
use lib.ListN.{length}
use Rattle.window.proofs.Window.{from-seed, no-values, not-neither}
use Rattle.change_rollups.proofs.rollup_fns.seeded.Goals as goal
use Rattle.change_rollups.proofs.rollup_fns.seeded.Goals.{else-is_nan-via-then-is_nan+else-values-eq0, else-is_nan-via-else-is_nan}

pub returns-then-values-eq0 : goal.returns-then-values-eq0
returns-then-values-eq0 g c f computes = rw (← c.is_nan.ensures, c.if-is_nan.true, no-values _ c.if-values-eq0.true) c.nan.ensures

pub returns : goal.returns
returns g c f computes =
    let p = c.args.prev_value in
    let l = c.args.values.now in
    let either : ((c.is_nan.result ≡ true) × (length l ≡ 0 → ⊥)) ⊎ (c.is_nan.result ≡ false) =
    elim c.else-is_nan.branch [ else-is_nan-via-then-is_nan+else-values-eq0 w ↦ inl (w.if-is_nan.true, w.if-values-eq0.false) | else-is_nan-via-else-is_nan w ↦ inr w.if-is_nan.false ]
    in
    computes _ _ _ c.f.ensures ∙ from-seed f p l (λ n z. absurd (not-neither p c.is_nan.ensures either n z)) c.seed.ensures c.after_seed.ensures
