use Rattle.std.proofs.Common.{rules}
use Rattle.vectors.proofs.Cursor.words.Goals as goal

pub returns-clause-by_index : goal.returns-clause-by_index
returns-clause-by_index c k h = let m = c.in_ok-list_of.ensures.by_index k 0 h in search rules
