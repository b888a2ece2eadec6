-- The part that is lent is the text, or there is none.
use mathlib.Core.Path.{sym}
use Rattle.lexer.proofs.text.text_of.Goals as goal

pub returns-in-Some : goal.returns-in-Some
returns-in-Some c = c.in-Some.ensures.0

pub returns-in-None : goal.returns-in-None
returns-in-None c = sym c.in-None.ensures.0
