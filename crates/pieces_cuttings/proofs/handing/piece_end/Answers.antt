-- By the two tests.
use Rattle.std.proofs.Common.{le-ltb, lt-ltb}
use Rattle.pieces_cuttings.proofs.handing.piece_end.Goals as goal

pub returns-then-source-from : goal.returns-then-source-from
returns-then-source-from c = rw (lt-ltb _ _ c.if-source-from.true)

pub returns-then-source-from-2 : goal.returns-then-source-from-2
returns-then-source-from-2 c = rw (le-ltb _ _ c.if-source-from.false, lt-ltb _ _ c.if-source-from-2.true)

pub returns : goal.returns
returns c = rw (le-ltb _ _ c.if-source-from.false, le-ltb _ _ c.if-source-from-2.false)
