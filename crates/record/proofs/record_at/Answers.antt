-- `record::record_at` meets its contract: times within 2^50 and lengths within 2^52 leave both differences in an `i64`, each field is a callee's answer,
-- and what is read at the indexes is the record.
-- Assumes nothing.
use borrow.Author.Rules.{rules}
use mir.Syntax.{w64}
use mir.Val.{SFits}
use mir.Facts.{to_z-of_z}
use Rattle.times.proofs.Milli.{within-fits}
use Rattle.record.proofs.Index.{record_is}
use Rattle.record.proofs.Limits.{limit-back}
use Rattle.record.proofs.record_at.Goals as goal

pub returns : goal.returns
returns c =
    let p = c.predecessor_time-prev_timestamp in
    let t = c.requires.timed in
    let l = t.lengths in
    let us = c.args.timestamps.now in
    let vs = c.args.values.now in
    let w = c.args.course.window in
    let r = c.args.course.reach in
    let p-fits : SFits w64 p.result = search rules in
    cc (
      record_is us vs c.requires.ordered.0 c.requires.ordered.1 w r c.args.t_end c.args.i c.args.j c.requires.found,
      limit-back t.time l.window l.reach,
      to_z-of_z p-fits,
      to_z-of_z (within-fits tt t.time),
      to_z-of_z (within-fits tt l.window),
      p.ensures,
      c.value_before-real_prev_value.ensures,
      c.value_at.ensures,
      c.time_at.ensures,
      c.value_if.ensures,
    )
