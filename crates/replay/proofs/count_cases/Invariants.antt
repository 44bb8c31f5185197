-- `replay::count_cases` ends: each case moves the tally on, which stays well counted, and is that of the cases so far.
-- Assumes nothing.
use Rattle.std.proofs.Common.{List, length, ◌-◌, Option}
use Rattle.replay.specs.Replayed.{Replayed}
use Rattle.replay.specs.Tally.{Counted, begun}
use Rattle.replay.specs.declared.Case.{Case}
use Rattle.vectors.specs.Words.{body_of}
use Rattle.replay.proofs.count_cases.Given as goal

abbrev pub invariant-loop-tally : goal.invariant-loop-tally
invariant-loop-tally g l =
    Counted l.tally × ((cases : List (Option Case)) × Replayed g.F.Fn l.case l.text (begun (body_of l.text)) cases l.tally)

abbrev pub decreases-loop-tally : goal.decreases-loop-tally
decreases-loop-tally g l = length l.text - l.tally.at
