-- `crossings::nearer::check_asked` meets its contract: what rows 2 to 4 say decides but for an asked time outside the limits, which comes before row 4.
-- Assumes nothing.
use mathlib.Core.Path.{◌≡◌, sym, ap, ◌∙◌}
use Rattle.std.proofs.lemmas.Result.{err_from_is_err_and}
use mathlib.Core.Bool.{Bool}
use lib.IntN.{ℤ}
use mir.Syntax.{w64}
use mir.Val.{SFits, to_z, of_z}
use mir.Facts.{to_z-of_z}
use Rattle.series.specs.Rows.{time_inside}
use Rattle.crossings.proofs.Asked.{asked-inside, asked-before, asked-after}
use Rattle.crossings.proofs.nearer.check_asked.Goals as goal

-- the test is of the time that was asked
inside_is : (t : ℤ) (b : Bool) → SFits w64 t → b ≡ time_inside (to_z w64 (of_z w64 t)) → b ≡ time_inside t
inside_is t b f e = e ∙ ap time_inside (to_z-of_z f)

pub returns-then-is_inside : goal.returns-then-is_inside
returns-then-is_inside c = c.check_times.ensures ∙ asked-inside _ _ (sym (inside_is _ _ c.ranges.time c.is_inside.ensures) ∙ c.if-is_inside.true)

pub returns-in_err-check_inside : goal.returns-in_err-check_inside
returns-in_err-check_inside c =
    let p = err_from_is_err_and c.from_residual.result c.from_residual.ensures.1 in
    let outside = sym (inside_is _ _ c.ranges.time c.is_inside.ensures) ∙ c.if-is_inside.false in
    rw (p.1, p.2) (sym (asked-before _ _ outside _ (sym c.check_inside.ensures ∙ c.in_err-check_inside.was)))

pub returns : goal.returns
returns c =
    let outside = sym (inside_is _ _ c.ranges.time c.is_inside.ensures) ∙ c.if-is_inside.false in
    sym (asked-after _ _ outside (sym c.check_inside.ensures ∙ c.in_ok-check_inside.was))
