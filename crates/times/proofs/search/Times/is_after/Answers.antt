-- `search::Times::is_after` meets its contract: what the code compares are the time at i and t, read back from their bits.
-- Assumes nothing.
use borrow.Author.Rules.{rules}
use lib.IntN.{pos}
use lib.ListN.{get_or}
use mir.Syntax.{w64}
use mir.Val.{SFits}
use mir.Facts.{to_z-of_z}
use Rattle.times.proofs.After.{tells}
use Rattle.times.proofs.search.Times.is_after.Goals as goal

pub returns : goal.returns
returns c =
    let known : SFits w64 (get_or c.args.self.now.slice.now c.args.i (pos 0)) = search rules in
    rw (to_z-of_z c.ranges.t, to_z-of_z known) (tells c.args.self.now.not_falling c.args.t c.args.i c.requires)
