-- The test is the definition's.
use borrow.Author.Tests.{eq-eqb, ne_eqb}
use Rattle.findings.specs.Told.{text_told}
use Rattle.findings.proofs.telling.text_told.Goals as goal

pub returns-then-p-first : goal.returns-then-p-first
unfolding text_told
returns-then-p-first c =
    let if1 = c.if-p-first in
    rw (eq-eqb _ _ if1.true, ← c.row_at-row.ensures, ← c.last_row-last.ensures) c.swallow_told.ensures

pub returns : goal.returns
unfolding text_told
returns c = rw (ne_eqb _ _ c.if-p-first.false)
