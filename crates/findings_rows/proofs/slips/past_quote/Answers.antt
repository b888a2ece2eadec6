-- What is to be found from each byte on is what was to be found from the first.
use mathlib.Core.Path.{sym, ◌∙◌}
use Rattle.findings_rows.proofs.Escapes.{closing_end, closing_escaped, closing_here, closing_on}
use Rattle.findings_rows.proofs.slips.past_quote.Goals as goal

pub loop-at-preserved-then-escaped : goal.loop-at-preserved-then-escaped
loop-at-preserved-then-escaped c = c.loop-at.invariant ∙ closing_escaped _ _ _ c.loop-at-test.true _ c.if-escaped.true

pub returns-then-b-quote : goal.returns-then-b-quote
returns-then-b-quote c = closing_here _ _ _ c.loop-at-test.true _ c.if-escaped.false c.if-b-quote.true ∙ sym c.loop-at.invariant

pub loop-at-preserved : goal.loop-at-preserved
loop-at-preserved c = c.loop-at.invariant ∙ closing_on _ _ _ c.loop-at-test.true _ c.if-escaped.false c.if-b-quote.false

pub returns : goal.returns
returns c = closing_end _ _ _ _ c.loop-at-test.false ∙ sym c.loop-at.invariant
