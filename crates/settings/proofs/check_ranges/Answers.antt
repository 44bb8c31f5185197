-- `settings::check_ranges` meets its contract: it goes through rows 6 to 9 in the table's order.
-- Assumes nothing.
use Prim.Native.Nat.{ℕ}
use mathlib.Core.Path.{◌≡◌, sym, ◌∙◌}
use mathlib.Core.Bool.{Bool}
use borrow.Author.Rules.{rules}
use lib.IntN.{ℤ, pos}
use mir.Syntax.{w64}
use mir.Val.{SFits}
use Rattle.times.proofs.Milli.{stored_and_read}
use mir.Facts.{to_z-of_z}
use Rattle.std.proofs.lemmas.Result.{err_from_is_err_and}
use Rattle.times.specs.Milli.{time_limit}
use Rattle.series.specs.Refusals.{Checked}
use Rattle.settings.specs.Rows.{setting_outside, span_checked}
use Rattle.settings.proofs.Passed.{two-rows, told}
use Rattle.settings.proofs.check_ranges.Goals as goal

-- each callee's answer, of the settings themselves and not of their bits
module _ (start end step : ℤ) (f : SFits w64 start) (g : SFits w64 end) (h : SFits w64 step) where
  span : {r : Checked} → r ≡ span_checked (stored_and_read start) (stored_and_read end) (stored_and_read step) → r ≡ span_checked start end step
  span e = rw (to_z-of_z f, to_z-of_z g, to_z-of_z h) at e

module _ (a b l : ℤ) (n : ℕ) (f : SFits w64 a) (g : SFits w64 b) (h : SFits w64 l) where
  nine : {r x : Bool} → r ≡ setting_outside (stored_and_read a) (stored_and_read b) (stored_and_read l) n → r ≡ x → setting_outside a b l n ≡ x
  nine e t = sym (rw (to_z-of_z f, to_z-of_z g, to_z-of_z h) at e) ∙ t

pub returns-in_err-check_span : goal.returns-in_err-check_span
returns-in_err-check_span c =
    let rc = c.args.rc in
    let p = err_from_is_err_and c.from_residual.result c.from_residual.ensures.1 in
    let first = span rc.start rc.end rc.step (search rules) (search rules) (search rules) (sym c.in_err-check_span.was ∙ c.check_span.ensures) in
    rw (p.1, p.2, two-rows, ← first)

pub returns-then-is_outside : goal.returns-then-is_outside
returns-then-is_outside c =
    let rc = c.args.rc in
    let passed = span rc.start rc.end rc.step (search rules) (search rules) (search rules) (sym c.in_ok-check_span.was ∙ c.check_span.ensures) in
    let eight = told (pos 0) (pos time_limit) rc.window (search rules) c.is_outside.ensures c.if-is_outside.true in
    rw (two-rows, ← passed, eight)

pub returns-then-is_setting_outside : goal.returns-then-is_setting_outside
returns-then-is_setting_outside c =
    let rc = c.args.rc in
    let passed = span rc.start rc.end rc.step (search rules) (search rules) (search rules) (sym c.in_ok-check_span.was ∙ c.check_span.ensures) in
    let eight = told (pos 0) (pos time_limit) rc.window (search rules) c.is_outside.ensures c.if-is_outside.false in
    let last = nine rc.lookback_delta rc.min_staleness_interval rc.max_points_per_series rc.samples_scanned_per_call (search rules) (search rules) (search rules) c.is_setting_outside.ensures c.if-is_setting_outside.true in
    rw (two-rows, ← passed, eight, last)

pub returns : goal.returns
returns c =
    let rc = c.args.rc in
    let passed = span rc.start rc.end rc.step (search rules) (search rules) (search rules) (sym c.in_ok-check_span.was ∙ c.check_span.ensures) in
    let eight = told (pos 0) (pos time_limit) rc.window (search rules) c.is_outside.ensures c.if-is_outside.false in
    let last = nine rc.lookback_delta rc.min_staleness_interval rc.max_points_per_series rc.samples_scanned_per_call (search rules) (search rules) (search rules) c.is_setting_outside.ensures c.if-is_setting_outside.false in
    rw (two-rows, ← passed, eight, last)
