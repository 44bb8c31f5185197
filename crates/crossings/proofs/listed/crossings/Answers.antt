-- `crossings::listed::crossings` meets its contract. A refusal is the first row that refuses, and nothing is written; else the indexes are
-- written to the leading part, and the rest is as it was.
-- Assumes nothing.
use Prim.Native.Nat.{ℕ}
use mathlib.Core.List.{List, ◌++◌}
use mathlib.Core.Path.{◌≡◌, refl, sym, ap, ◌∙◌}
use borrow.Author.Tests.{lt-ltb, le-ltb}
use lib.Ieee.{Float, nan, inf, fin}
use lib.Ieee.Scale.{finite}
use lib.ListN.{drop}
use Rattle.std.specs.Float.{float_is_finite}
use Rattle.std.proofs.lemmas.Result.{err_from_is_err_and}
use Rattle.series.proofs.Accepted.{accepted-series}
use Rattle.series.specs.Answers.{gives, outcome}
use Rattle.series.specs.Series.{Series}
use Rattle.crossings.specs.Crossings.{crossings_checked}
use Rattle.crossings.proofs.listed.crossings.Goals as goal

finite_is : (x : Float) → float_is_finite x ≡ finite x
unfolding float_is_finite
finite_is nan = refl
finite_is (inf s) = refl
finite_is (fin s m e) = refl

pub returns-in_err-check_series : goal.returns-in_err-check_series
unfolding crossings_checked
returns-in_err-check_series c =
    let p = err_from_is_err_and c.from_residual.result c.from_residual.ensures.1 in
    rw (p.1, p.2, ← c.check_series.ensures, c.in_err-check_series.was)

pub returns-then-not-is_finite : goal.returns-then-not-is_finite
unfolding crossings_checked
returns-then-not-is_finite c = rw (← finite_is c.args.limit, ← c.is_finite.ensures.value, c.if-not-is_finite.true, ← c.check_series.ensures, c.in_ok-check_series.was)

pub invariant_of-sides : goal.invariant_of-sides
invariant_of-sides c =
    let held : c.args.series.now.values ≡ c.series.inside.values.now = ap (λ (s : Series). s.values) (sym c.series.view_is) in
    record { all_finite = rw held at (accepted-series _ _ (sym c.check_series.ensures ∙ c.in_ok-check_series.was)).all_finite }

pub returns-then-indexes-n : goal.returns-then-indexes-n
unfolding crossings_checked
returns-then-indexes-n c =
    let held : c.series.inside.values.now ≡ c.args.series.now.values = ap (λ (s : Series). s.values) c.series.view_is in
    let n = rw held at c.count-n.ensures in
    rw (← n, lt-ltb _ _ c.if-indexes-n.true, ← finite_is c.args.limit, ← c.is_finite.ensures.value, c.if-not-is_finite.false, ← c.check_series.ensures, c.in_ok-check_series.was)

pub returns : goal.returns
unfolding crossings_checked
returns c =
    let held : c.series.inside.values.now ≡ c.args.series.now.values = ap (λ (s : Series). s.values) c.series.view_is in
    let n = rw held at c.count-n.ensures in
    rw (← n, le-ltb _ _ c.if-indexes-n.false, ← finite_is c.args.limit, ← c.is_finite.ensures.value, c.if-not-is_finite.false, ← c.check_series.ensures, c.in_ok-check_series.was)
    (ap (λ (new : List ℕ). outcome (gives c.count-n.result) (new ++ drop c.count-n.result c.args.indexes.now)) (rw held at c.list.ensures))
