-- The tests are the definition's, in its order.
use mathlib.Core.Path.{sym, ◌∙◌}
use Rattle.findings.specs.Slips.{odd_code, some_code}
use Rattle.findings.proofs.slips.odd_code.Goals as goal

pub returns-then-is_quote : goal.returns-then-is_quote
unfolding odd_code some_code
returns-then-is_quote c = rw (sym c.is_quote.ensures ∙ c.if-is_quote.true)

pub returns-then-is_dash : goal.returns-then-is_dash
unfolding odd_code some_code
returns-then-is_dash c = rw (sym c.is_quote.ensures ∙ c.if-is_quote.false, sym c.is_dash.ensures ∙ c.if-is_dash.true)

pub returns-then-is_invisible : goal.returns-then-is_invisible
unfolding odd_code some_code
returns-then-is_invisible c =
    rw (
      sym c.is_quote.ensures ∙ c.if-is_quote.false,
      sym c.is_dash.ensures ∙ c.if-is_dash.false,
      sym c.is_invisible.ensures ∙ c.if-is_invisible.true,
    )

pub returns : goal.returns
unfolding odd_code some_code
returns c =
    rw (
      sym c.is_quote.ensures ∙ c.if-is_quote.false,
      sym c.is_dash.ensures ∙ c.if-is_dash.false,
      sym c.is_invisible.ensures ∙ c.if-is_invisible.false,
    )
