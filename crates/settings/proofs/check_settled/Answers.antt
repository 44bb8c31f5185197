-- `settings::check_settled` meets its contract: it goes through its rows in the table's order.
-- Assumes nothing.
use mathlib.Core.Path.{◌≡◌, sym, ◌∙◌}
use mathlib.Core.Bool.{Bool}
use borrow.Author.Rules.{rules}
use borrow.Author.Tests.{lt-ltb, le-ltb}
use lib.IntN.{ℤ}
use mir.Syntax.{w64}
use mir.Val.{SFits}
use mir.Facts.{to_z-of_z}
use Rattle.times.specs.Grid.{Spans}
use Rattle.times.proofs.Milli.{stored_and_read}
use Rattle.series.specs.Refusals.{Checked}
use Rattle.std.specs.Prelude.{Ok}
use Rattle.std.proofs.lemmas.Result.{err_from_is_err_and}
use Rattle.settings.specs.Rows.{row11, settled_outside, settled_settings, span_checked}
use Rattle.settings.proofs.Passed.{last_row, span-passed, two-rows}
use Rattle.settings.proofs.check_settled.Goals as goal

-- each callee's answer, of the settings themselves and not of their bits
module _ (start end step : ℤ) (f : SFits w64 start) (g : SFits w64 end) (h : SFits w64 step) where
  span : {r : Checked} → r ≡ span_checked (stored_and_read start) (stored_and_read end) (stored_and_read step) → r ≡ span_checked start end step
  span e = rw (to_z-of_z f, to_z-of_z g, to_z-of_z h) at e

  -- rows 6 and 7 accepted
  spans : (Ok tt) ≡ span_checked (stored_and_read start) (stored_and_read end) (stored_and_read step) → Spans (stored_and_read start) (stored_and_read end) (stored_and_read step)
  spans e = rw (to_z-of_z f, to_z-of_z g, to_z-of_z h) (span-passed start end step (sym (span e)))

  eleven : {r : Checked} → r ≡ row11 (stored_and_read start) (stored_and_read end) (stored_and_read step) → r ≡ row11 start end step
  eleven e = rw (to_z-of_z f, to_z-of_z g, to_z-of_z h) at e

module _ (window reach : ℤ) (f : SFits w64 window) (g : SFits w64 reach) where
  eight : {r x : Bool} → r ≡ settled_outside (stored_and_read window) (stored_and_read reach) → r ≡ x → settled_outside window reach ≡ x
  eight e t = sym (rw (to_z-of_z f, to_z-of_z g) at e) ∙ t

pub returns-in_err-check_span : goal.returns-in_err-check_span
unfolding settled_settings
returns-in_err-check_span c =
    let sc = c.args.sc in
    let p = err_from_is_err_and c.from_residual.result c.from_residual.ensures.1 in
    let first = span sc.start sc.end sc.step (search rules) (search rules) (search rules) (sym c.in_err-check_span.was ∙ c.check_span.ensures) in
    rw (p.1, p.2, two-rows, ← first)

pub returns-then-is_settled_outside : goal.returns-then-is_settled_outside
unfolding settled_settings
returns-then-is_settled_outside c =
    let sc = c.args.sc in
    let first = span sc.start sc.end sc.step (search rules) (search rules) (search rules) (sym c.in_ok-check_span.was ∙ c.check_span.ensures) in
    rw (two-rows, ← first, eight sc.window sc.reach (search rules) (search rules) c.is_settled_outside.ensures c.if-is_settled_outside.true)

pub returns-then-sc-gt-MAX_PER_CALL : goal.returns-then-sc-gt-MAX_PER_CALL
unfolding settled_settings
returns-then-sc-gt-MAX_PER_CALL c =
    let sc = c.args.sc in
    let first = span sc.start sc.end sc.step (search rules) (search rules) (search rules) (sym c.in_ok-check_span.was ∙ c.check_span.ensures) in
    rw
    (two-rows, ← first, eight sc.window sc.reach (search rules) (search rules) c.is_settled_outside.ensures c.if-is_settled_outside.false, lt-ltb _ _ c.if-sc-gt-MAX_PER_CALL.true)

pub check_points-requires : goal.check_points-requires
check_points-requires c =
    let sc = c.args.sc in
    spans sc.start sc.end sc.step (search rules) (search rules) (search rules) (sym c.in_ok-check_span.was ∙ c.check_span.ensures)

pub returns : goal.returns
unfolding settled_settings
returns c =
    let sc = c.args.sc in
    let first = span sc.start sc.end sc.step (search rules) (search rules) (search rules) (sym c.in_ok-check_span.was ∙ c.check_span.ensures) in
    rw
    (two-rows, ← first, eight sc.window sc.reach (search rules) (search rules) c.is_settled_outside.ensures c.if-is_settled_outside.false, le-ltb _ _ c.if-sc-gt-MAX_PER_CALL.false, last_row (row11 sc.start sc.end sc.step))
    (eleven sc.start sc.end sc.step (search rules) (search rules) (search rules) c.check_points.ensures)
