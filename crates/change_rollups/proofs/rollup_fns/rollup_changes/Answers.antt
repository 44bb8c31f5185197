-- `change_rollups::rollup_fns::rollup_changes` meets its contract: the predecessor, or else the first value, is where it starts.
-- Assumes nothing.
use mathlib.Core.Bool.{true, false, cond}
use mathlib.Core.List.{List}
use mathlib.Core.Logic.{◌⊎◌, inl, inr}
use mathlib.Core.Path.{◌≡◌, sym, ◌∙◌}
use Prim.Native.Nat.{ℕ, ◌+◌}
use lib.Ieee.{Float, is_nan}
use lib.ListN.{length, drop}
use Rattle.ieee.specs.Patterns.{floats}
use Rattle.window.specs.Window.{count_f, first_of}
use Rattle.ieee.proofs.Floats.{rest-values}
use Rattle.window.proofs.Window.{no-values, some-values, not-neither}
use Rattle.change_rollups.specs.RollupFns.{changes_from, changes_of}
use Rattle.change_rollups.proofs.rollup_fns.rollup_changes.Goals as goal
use Rattle.change_rollups.proofs.rollup_fns.rollup_changes.Goals.{else-alone-via-then-alone+else-values-eq0, else-alone-via-else-alone}

module _ (p : Float) (l : List ℕ) (s : Float) (r : List ℕ) (n : ℕ) (at : s ≡ cond (is_nan p) (first_of (floats l)) p) (rest : r ≡ cond (is_nan p) (drop 1 l) l) (is : n ≡ changes_from s (floats r)) where
  from_first : is_nan p ≡ true → (length l ≡ 0 → ⊥) → count_f (n + 1) ≡ changes_of p (floats l)
  unfolding changes_of
  from_first t some = rw (t, some-values l some, is, rw t at at, rw t at rest, rest-values 1 l)

  from-predecessor : is_nan p ≡ false → count_f n ≡ changes_of p (floats l)
  unfolding changes_of
  from-predecessor t = rw (t, is, rw t at at, rw t at rest)

pub returns-then-values-eq0 : goal.returns-then-values-eq0
unfolding changes_of
returns-then-values-eq0 c = rw (← c.is_nan-alone.ensures, c.if-alone.true, no-values _ c.if-values-eq0.true) c.nan.ensures

pub returns-then-alone-2 : goal.returns-then-alone-2
returns-then-alone-2 c =
    let p = c.args.rfa.prev_value in
    let l = c.args.values.now in
    let either : ((c.is_nan-alone.result ≡ true) × (length l ≡ 0 → ⊥)) ⊎ (c.is_nan-alone.result ≡ false) =
    elim c.else-alone.branch [ else-alone-via-then-alone+else-values-eq0 w ↦ inl (w.if-alone.true, w.if-values-eq0.false) | else-alone-via-else-alone w ↦ inr w.if-alone.false ]
    in
    let alone : is_nan p ≡ true = sym c.is_nan-alone.ensures ∙ c.if-alone-2.true in
    c.of_count.ensures ∙ from_first p l _ _ _ c.seed.ensures c.after_seed.ensures c.count_changes-n.ensures.counted alone (not-neither p c.is_nan-alone.ensures either alone)

pub returns : goal.returns
returns c =
    c.of_count-2.ensures ∙ from-predecessor c.args.rfa.prev_value c.args.values.now _ _ _ c.seed.ensures c.after_seed.ensures c.count_changes-n.ensures.counted (sym c.is_nan-alone.ensures ∙ c.if-alone-2.false)
