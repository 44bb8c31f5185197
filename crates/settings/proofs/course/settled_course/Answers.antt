-- `course::settled_course` meets its contract: each field is the setting's, and the grid's size that of the settings.
-- Assumes nothing.
use borrow.Author.Rules.{rules}
use mir.Syntax.{w64}
use mir.Val.{SFits}
use mir.Facts.{to_z-of_z}
use Rattle.times.specs.Grid.{Spans}
use Rattle.times.proofs.Milli.{stored_and_read}
use Rattle.settings.proofs.Passed.{settled-spans}
use Rattle.settings.proofs.course.settled_course.Goals as goal

pub points-requires : goal.points-requires
points-requires c =
    let sc = c.args.sc in
    let start : SFits w64 sc.start = search rules in
    let end : SFits w64 sc.end = search rules in
    let step : SFits w64 sc.step = search rules in
    let spans : Spans (stored_and_read sc.start) (stored_and_read sc.end) (stored_and_read sc.step) = rw (to_z-of_z start, to_z-of_z end, to_z-of_z step) (settled-spans sc c.requires) in
    spans
