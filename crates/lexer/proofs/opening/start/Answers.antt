-- Only the place is computed.
use Rattle.lexer.proofs.opening.start.Goals as goal

pub returns : goal.returns
returns c = rw c.start_of.ensures
