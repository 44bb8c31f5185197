-- `quantile::prepare_for_quantile_float64` meets its contract: what is kept has room behind it, is no NaN, and is sorted.
-- Assumes nothing.
use mathlib.Core.Path.{◌≡◌, ap, ◌∙◌}
use mathlib.Core.List.{List, ◌++◌, map, map-id}
use Prim.Native.Nat.{ℕ, ◌*◌, ◌≤◌}
use borrow.Author.Rules.{rules}
use lib.Ieee.{Float}
use lib.ListN.{length, take, drop}
use Rattle.ieee.specs.Patterns.{floats}
use Rattle.ieee.proofs.Floats.{length-floats}
use Rattle.order.specs.Order.{Sortable, sorted}
use Rattle.order.specs.declared.Order.TheVariants.{Partial}
use Rattle.sort.specs.Values.{kept}
use Rattle.sort.proofs.Halves.{first-half, part-first, part-behind}
use Rattle.quantile.proofs.Kept.{kept-ready, kept-first, kept-behind}
use Rattle.quantile.proofs.prepare_for_quantile_float64.Goals as goal

-- w, which was w₀, once n values are kept
record Prepared (vs : List ℕ) (w₀ w : List Float) (n : ℕ) : Type 0 where
  size : n ≡ length (kept (floats vs))
  first : take n w ≡ kept (floats vs)
  ready : (2 * n ≤ length w) × Sortable Partial (take n w)
  behind : (last : List Float) → drop (2 * n) last ≡ drop (2 * n) w → drop (2 * length vs) last ≡ drop (2 * length vs) w₀

-- what `keep` finds of a value is the value itself
prepared : (vs : List ℕ) (w₀ w : List Float) (n : ℕ) → n ≡ length (kept (map (λ x. x) (floats vs))) → w ≡ kept (map (λ x. x) (floats vs)) ++ drop n w₀ → 2 * length vs ≤ length w₀ → length w ≡ length w₀ → Prepared vs w₀ w n
prepared vs w₀ w n found left room long =
    let all = floats vs in
    let size : n ≡ length (kept all) = rw map-id at found in
    let is : w ≡ kept all ++ drop n w₀ = rw map-id at left in
    record {
      size = size;
      first = kept-first all w₀ w n (length vs) (length-floats vs) size is;
      ready = kept-ready all w₀ w n (length vs) (length-floats vs) size is room long;
      behind = kept-behind all w₀ w n (length vs) (length-floats vs) size is;
    }

pub sort-requires : goal.sort-requires
sort-requires c =
    let k = c.keep-kept in
    let p = prepared _ _ k.new.work k.result (k.ensures.value (λ x. x) (search rules)) (k.ensures.work_after (λ x. x) (search rules)) c.requires k.auto.work in
    rw (first-half k.result k.new.work p.ready.0) p.ready.1

pub returns : goal.returns
returns c =
    let k = c.keep-kept in
    let s = c.sort in
    let p = prepared _ _ k.new.work k.result (k.ensures.value (λ x. x) (search rules)) (k.ensures.work_after (λ x. x) (search rules)) c.requires k.auto.work in
    record {
      value = p.size;
      work_after = part-first k.result k.new.work p.ready.0 (sorted Partial) s.new.w s.auto.w s.ensures ∙ ap (sorted Partial) p.first;
      work_unchanged = p.behind _ (part-behind k.result k.new.work p.ready.0 (sorted Partial) s.new.w s.auto.w);
    }
