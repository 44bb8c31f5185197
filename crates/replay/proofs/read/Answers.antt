-- `replay::read` meets its contract: the text is what was read, and that the first LONGEST bytes.
-- Assumes nothing.
use Rattle.replay.proofs.Taken.{first_of, kept_of}
use Rattle.replay.proofs.read.Goals as goal

pub returns-clause-bytes : goal.returns-clause-bytes
returns-clause-bytes g c =
    kept_of _ 4194304 _ _
    (first_of _ _ 4194304 _ c.take.ensures.limit (rw (c.new-text.ensures.items, c.take.ensures.inner) at c.in_ok-read_to_end.ensures.bytes))
    c.truncate.ensures.items
