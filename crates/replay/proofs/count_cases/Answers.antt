-- One turn of `replay::count_cases`: the case is as the function that replays it answers.
-- Assumes nothing.
use Rattle.std.proofs.Common.{rules, [], ◌∷◌, ◌++◌}
use Rattle.std.proofs.lemmas.Fn.{FoldsTo-push}
use Rattle.replay.specs.Replayed.{Judged}
use Rattle.replay.proofs.count_cases.Goals.{in-Ok, in-Err-Malformed}
use Rattle.replay.proofs.count_cases.Goals as goal

pub loop-tally-preserved : goal.loop-tally-preserved
loop-tally-preserved g c =
    let judged : Judged g.F.Fn c.args.case c.args.text.now c.loop-tally.tally.at c.match-case.replayed = record {
      shown = _;
      met = c.case.ensures;
      rest = search rules;
      first = search rules;
      answer = c.case.result;
      left = _;
      read = elim c.match-case.branch [ in-Ok w ↦ rw w.in-Ok.is w.replayed-is | in-Err-Malformed w ↦ rw (w.in-Err-Malformed.is, w.in-Err-Malformed.field-0-is) w.replayed-is ];
    } in
    (c.next-tally.ensures.counted, (c.loop-tally.invariant.1.0 ++ c.match-case.replayed ∷ [], FoldsTo-push _ _ _ _ _ _ c.loop-tally.invariant.1.1 (judged, c.next-tally.ensures.exact)))
