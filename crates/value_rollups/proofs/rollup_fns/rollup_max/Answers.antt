-- `value_rollups::rollup_fns::rollup_max` meets its contract: it folds `no_lesser` over the values after the first, from the first.
-- Assumes nothing.
use mathlib.Core.List.{List, ◌∷◌, foldl}
use mathlib.Core.Path.{◌≡◌, ◌∙◌}
use Prim.Native.Nat.{ℕ}
use borrow.Author.Rules.{rules}
use lib.Ieee.{Float, binary64, of_bits}
use Rattle.std.specs.List.{fold}
use Rattle.std.proofs.lemmas.Grind.{common_steps}
use Rattle.ieee.specs.Patterns.{floats}
use Rattle.window.specs.Window.{first_or, is_empty}
use Rattle.window.proofs.Window.{no-values}
use Rattle.window.proofs.Folds.{fold-values}
use Rattle.value_rollups.specs.RollupFns.{max_of, no_lesser}
use Rattle.value_rollups.proofs.rollup_fns.rollup_max.Goals as goal

from-first : {l : List ℕ} {b : ℕ} {rest : List ℕ} → l ≡ b ∷ rest → foldl no_lesser (of_bits binary64 b) (floats rest) ≡ max_of (floats l)
unfolding max_of floats first_or is_empty
from-first e = rw e

pub returns-in-Some : goal.returns-in-Some
returns-in-Some c =
    let b = c.in-Some.first.now in
    let rest = c.in-Some.rest.now in
    let whole : c.args.values.now ≡ b ∷ rest = search rules in
    let e : c.fold.result ≡ fold (λ (s : Float) (b : ℕ). no_lesser s (of_bits binary64 b)) c.value_of.result rest = search (rules, common_steps) in
    e ∙ fold-values no_lesser _ rest ∙ rw c.value_of.ensures (from-first whole)

pub returns-in-None : goal.returns-in-None
unfolding max_of
returns-in-None c = rw (no-values _ c.in-None.ensures.cases) c.nan.ensures
