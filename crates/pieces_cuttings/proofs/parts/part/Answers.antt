-- By the two tests.
use Rattle.std.proofs.Common.{le-ltb, lt-ltb}
use Rattle.pieces_cuttings.proofs.parts.part.Goals as goal

pub returns-then-to-from : goal.returns-then-to-from
returns-then-to-from c = rw (lt-ltb _ _ c.if-to-from.true)

pub returns-then-source-to : goal.returns-then-source-to
returns-then-source-to c = rw (le-ltb _ _ c.if-to-from.false, lt-ltb _ _ c.if-source-to.true)

pub returns : goal.returns
returns c = rw (le-ltb _ _ c.if-to-from.false, le-ltb _ _ c.if-source-to.false)
