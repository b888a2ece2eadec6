-- Strings stand in double quotes, identifiers in vertical lines.
use borrow.Author.Tests.{eq-eqb, ne_eqb}
use Rattle.lexer.proofs.whole.quotes.Goals as goal

pub returns-then-kind-eq-STRING_LITERAL : goal.returns-then-kind-eq-STRING_LITERAL
returns-then-kind-eq-STRING_LITERAL c = rw (eq-eqb _ _ c.if-kind-eq-STRING_LITERAL.true)

pub returns : goal.returns
returns c = rw (ne_eqb _ _ c.if-kind-eq-STRING_LITERAL.false)
