-- Whether a character is cut.
use borrow.Author.Tests.{eq-eqb, ne_eqb}
use Rattle.pieces_calls.proofs.calls.end_idle.Goals as goal

pub returns-then-m-ne0 : goal.returns-then-m-ne0
returns-then-m-ne0 c = λ buf text. rw (ne_eqb _ _ c.if-m-ne0.true) (simp (c.at_end.ensures, c.stop.ensures))

pub returns : goal.returns
returns c = λ buf text. rw (eq-eqb _ _ c.if-m-ne0.false)
