-- The part that is lent is the text, or there is none.
use mathlib.Core.Path.{sym}
use Rattle.lexer.proofs.text.text_mark.Goals as goal

pub returns-in-Some : goal.returns-in-Some
returns-in-Some c = sym c.in-Some.ensures.1

pub returns-in-None : goal.returns-in-None
returns-in-None c = sym c.in-None.ensures.1
