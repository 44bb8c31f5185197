-- `settings::check_settings` meets its contract: rows 6 to 9 leave a span and a step that rows 10 and 11 can be computed of.
-- Assumes nothing.
use mathlib.Core.Path.{◌≡◌, sym, ◌∙◌}
use mathlib.Core.Bool.{Bool}
use mir.Facts.{to_z-of_z}
use Rattle.times.specs.Grid.{Spans}
use Rattle.times.proofs.Milli.{stored_and_read, within-fits}
use Rattle.std.specs.Prelude.{Ok}
use Rattle.std.proofs.lemmas.Result.{err_from_is_err_and}
use Rattle.settings.specs.declared.RollupConfig.{RollupConfig}
use Rattle.settings.specs.Rows.{over_point_limit, ranges_checked, row11, settings_checked}
use Rattle.settings.proofs.Passed.{Passed, last_row, ranges-passed, up_to_fits}
use Rattle.settings.proofs.check_settings.Goals as goal

-- rows 6 to 9 accepted
module _ (rc : RollupConfig) (accepted : (Ok tt) ≡ ranges_checked rc) where
  passed : Passed rc
  passed = ranges-passed rc (sym accepted)

  spans : Spans (stored_and_read rc.start) (stored_and_read rc.end) (stored_and_read rc.step)
  spans =
      let p = passed.spans in
      rw (to_z-of_z (within-fits tt p.start_within), to_z-of_z (within-fits tt p.end_within), to_z-of_z (within-fits tt p.step_within)) p

  ten : {r x : Bool} → r ≡ over_point_limit (stored_and_read rc.start) (stored_and_read rc.end) (stored_and_read rc.step) (stored_and_read rc.max_points_per_series) → r ≡ x → over_point_limit rc.start rc.end rc.step rc.max_points_per_series ≡ x
  ten e t =
      let p = passed.spans in
      sym (rw (to_z-of_z (within-fits tt p.start_within), to_z-of_z (within-fits tt p.end_within), to_z-of_z (within-fits tt p.step_within), to_z-of_z (up_to_fits passed.limit)) at e)
      ∙ t

pub returns-in_err-check_ranges : goal.returns-in_err-check_ranges
unfolding settings_checked
returns-in_err-check_ranges c =
    let p = err_from_is_err_and c.from_residual.result c.from_residual.ensures.1 in
    rw (p.1, p.2, ← c.check_ranges.ensures, c.in_err-check_ranges.was)

pub is_over_point_limit-requires : goal.is_over_point_limit-requires
is_over_point_limit-requires c = spans c.args.rc (sym c.in_ok-check_ranges.was ∙ c.check_ranges.ensures)

pub returns-then-is_over_point_limit : goal.returns-then-is_over_point_limit
unfolding settings_checked
returns-then-is_over_point_limit c =
    rw (← (sym c.in_ok-check_ranges.was ∙ c.check_ranges.ensures), ten c.args.rc (sym c.in_ok-check_ranges.was ∙ c.check_ranges.ensures) c.is_over_point_limit.ensures c.if-is_over_point_limit.true)

pub check_points-requires : goal.check_points-requires
check_points-requires c = spans c.args.rc (sym c.in_ok-check_ranges.was ∙ c.check_ranges.ensures)

pub returns : goal.returns
unfolding settings_checked
returns c =
    let rc = c.args.rc in
    let p = (passed rc (sym c.in_ok-check_ranges.was ∙ c.check_ranges.ensures)).spans in
    rw (← (sym c.in_ok-check_ranges.was ∙ c.check_ranges.ensures), ten rc (sym c.in_ok-check_ranges.was ∙ c.check_ranges.ensures) c.is_over_point_limit.ensures c.if-is_over_point_limit.false, last_row (row11 rc.start rc.end rc.step))
    (rw (to_z-of_z (within-fits tt p.start_within), to_z-of_z (within-fits tt p.end_within), to_z-of_z (within-fits tt p.step_within)) at c.check_points.ensures)
