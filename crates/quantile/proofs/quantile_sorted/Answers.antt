-- `quantile::quantile_sorted` meets its contract: it makes the tests of the definition, and its operations in their order.
-- Assumes nothing.
use mathlib.Core.Path.{refl, sym, ◌∙◌}
use borrow.Author.Tests.{eq-eqb, ne_eqb}
use lib.Ieee.{neg, div, of_bits}
use Rattle.quantile.specs.Quantile.{between, at_rank, rank_of, quantile_sorted}
use Rattle.quantile.proofs.quantile_sorted.Goals as goal
use Rattle.quantile.proofs.quantile_sorted.Goals.{then-n-eq0-via-then-n-eq0, then-n-eq0-via-else-n-eq0+then-is_nan}

pub returns-then-n-eq0 : goal.returns-then-n-eq0
unfolding quantile_sorted of_bits
returns-then-n-eq0 c = elim c.then-n-eq0.branch [
  | then-n-eq0-via-then-n-eq0 w ↦ rw (eq-eqb _ 0 w.if-n-eq0.true) refl
  | then-n-eq0-via-else-n-eq0+then-is_nan w ↦ rw (ne_eqb _ 0 w.if-n-eq0.false, sym w.is_nan.ensures.value ∙ w.if-is_nan.true) refl
]

pub returns-then-phi : goal.returns-then-phi
unfolding quantile_sorted div neg of_bits
returns-then-phi c = rw (ne_eqb _ 0 c.if-n-eq0.false, sym c.is_nan.ensures.value ∙ c.if-is_nan.false, c.if-phi.true)

pub returns-then-phi-2 : goal.returns-then-phi-2
unfolding quantile_sorted div neg of_bits
returns-then-phi-2 c = rw (ne_eqb _ 0 c.if-n-eq0.false, sym c.is_nan.ensures.value ∙ c.if-is_nan.false, c.if-phi.false, c.if-phi-2.true)

pub returns : goal.returns
unfolding quantile_sorted at_rank rank_of between
returns c =
    rw (c.min-upper.ensures, c.min-lower.ensures, c.to_usize.ensures, c.floor-below.ensures, c.of_count.ensures, ne_eqb _ 0 c.if-n-eq0.false, sym c.is_nan.ensures.value ∙ c.if-is_nan.false, c.if-phi.false, c.if-phi-2.false)
