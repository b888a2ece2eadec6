-- By the quote.
use mathlib.Core.Path.{sym}
use borrow.Author.Tests.{eq-eqb, ne_eqb}
use Rattle.findings_rows.proofs.slips.unclosed_kind.Goals as goal

pub returns-then-quote-eq34 : goal.returns-then-quote-eq34
returns-then-quote-eq34 c = sym (rw (eq-eqb _ _ c.if-quote-eq34.true))

pub returns : goal.returns
returns c = sym (rw (ne_eqb _ _ c.if-quote-eq34.false))
