-- By its first byte.
use mathlib.Core.Path.{sym, ◌∙◌}
use Rattle.findings_rows.proofs.slips.quote_of.Goals as goal

pub returns-then-starts_at : goal.returns-then-starts_at
returns-then-starts_at c = sym (rw (sym c.starts_at.ensures ∙ c.if-starts_at.true))

pub returns : goal.returns
returns c = sym (rw (sym c.starts_at.ensures ∙ c.if-starts_at.false))
