-- By the two tests.
use Rattle.std.proofs.Common.{le-ltb, lt-ltb}
use Rattle.pieces_cuttings.proofs.handing.next_size.Goals as goal

pub returns-then-size-cutting : goal.returns-then-size-cutting
returns-then-size-cutting c = rw (lt-ltb _ _ c.if-size-cutting.true)

pub returns-then-size-cutting-2 : goal.returns-then-size-cutting-2
returns-then-size-cutting-2 c = rw (le-ltb _ _ c.if-size-cutting.false, lt-ltb _ _ c.if-size-cutting-2.true)

pub returns : goal.returns
returns c = rw (le-ltb _ _ c.if-size-cutting.false, le-ltb _ _ c.if-size-cutting-2.false)
