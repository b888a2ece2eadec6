-- By whether there is such a record.
use Rattle.std.proofs.Common.{le-leb}
use borrow.Author.Tests.{lt-leb}
use Rattle.pieces_cuttings.proofs.parts.record_at.Goals as goal

pub returns-then-words-n : goal.returns-then-words-n
returns-then-words-n c = rw (le-leb _ _ c.if-words-n.true)

pub returns : goal.returns
returns c =
    rw (lt-leb _ _ c.if-words-n.false)
