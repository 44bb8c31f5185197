-- `settle::settle` meets its contract: rows 2 to 4 come first, and then what `settle_settings` does.
-- Assumes nothing.
use mathlib.Core.List.{[], ◌∷◌}
use mathlib.Core.Path.{◌≡◌, sym, ap, ◌∙◌}
use Rattle.std.proofs.lemmas.Result.{err_from_is_err_and}
use Rattle.series.specs.Answers.{reply_of}
use Rattle.series.specs.Refusals.{first_refusal}
use Rattle.series.specs.Refusals.{Checked}
use Rattle.settings.specs.Rows.{settings_checked}
use Rattle.config.specs.Settle.{settlement, settle_of}
use Rattle.settings.proofs.Passed.{last_row}
use Rattle.config.proofs.settle.settle.Goals as goal

pub returns-in_err-check_times : goal.returns-in_err-check_times
unfolding settle_of
returns-in_err-check_times c =
    let p = err_from_is_err_and c.from_residual.result c.from_residual.ensures.1 in
    rw (p.1, p.2, ← c.check_times.ensures, c.in_err-check_times.was)

pub returns : goal.returns
unfolding settle_of
returns c =
    let rc = c.args.rc in
    let last : settings_checked rc ≡ first_refusal (settings_checked rc ∷ []) = sym (last_row (settings_checked rc)) in
    rw (← c.check_times.ensures, c.in_ok-check_times.was)
    (c.settle_settings.ensures ∙ ap (λ (x : Checked). reply_of x (settlement c.args.timestamps.now rc)) last)
