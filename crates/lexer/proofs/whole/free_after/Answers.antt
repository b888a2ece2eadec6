-- A text in the text memory ends where the free part starts.
use borrow.Author.Tests.{eq-eqb, ne_eqb}
use Rattle.lexer.proofs.whole.free_after.Goals as goal

pub returns-then-r-eq-IN_MEMORY : goal.returns-then-r-eq-IN_MEMORY
returns-then-r-eq-IN_MEMORY c = rw (eq-eqb _ _ c.if-r-eq-IN_MEMORY.true)

pub returns : goal.returns
returns c = rw (ne_eqb _ _ c.if-r-eq-IN_MEMORY.false)
