-- `prepare::prepare` meets its contract. A refusal is the first row that refuses, and nothing is written; else the step writes the leading part, and the rest is as it was.
-- Assumes nothing.
use Prim.Native.Nat.{ℕ}
use mathlib.Core.Path.{ap}
use mathlib.Core.List.{List, ◌++◌}
use borrow.Author.Tests.{lt-ltb, le-ltb}
use lib.ListN.{length, drop}
use Rattle.std.proofs.lemmas.Result.{err_from_is_err_and}
use Rattle.series.specs.Answers.{gives, outcome}
use Rattle.prepare.specs.Prepare.{prepare_checked}
use Rattle.prepare.proofs.prepare.Goals as goal

pub returns-in_err-check_series : goal.returns-in_err-check_series
unfolding prepare_checked
returns-in_err-check_series c =
    let p = err_from_is_err_and c.from_residual.result c.from_residual.ensures.1 in
    rw (p.1, p.2, ← c.check_series.ensures, c.in_err-check_series.was)

pub returns-then-prepared-n : goal.returns-then-prepared-n
unfolding prepare_checked
returns-then-prepared-n c =
    let checked = rw (← c.series.view_is) at c.check_series.ensures in
    rw (← c.series.view_is, lt-ltb _ _ c.if-prepared-n.true, ← checked, c.in_ok-check_series.was)

pub returns : goal.returns
unfolding prepare_checked
returns c =
    let old = c.args.prepared.now in
    let vs = c.series.inside.values.now in
    let checked = rw (← c.series.view_is) at c.check_series.ensures in
    rw (← c.series.view_is, le-ltb _ _ c.if-prepared-n.false, ← checked, c.in_ok-check_series.was)
    (ap (λ (new : List ℕ). outcome (gives tt) (new ++ drop (length vs) old)) c.apply.ensures)
