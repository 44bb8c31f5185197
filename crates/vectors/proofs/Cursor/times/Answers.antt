use Rattle.std.proofs.Common.{rules, pos}
use Rattle.vectors.proofs.Cursor.times.Goals as goal

pub returns-clause-by_index : goal.returns-clause-by_index
returns-clause-by_index c k h = let m = c.in_ok-list_of.ensures.by_index k (pos 0) h in search rules
