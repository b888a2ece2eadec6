-- Both bytes are there, or the first is not.
use mathlib.Core.Path.{sym, ◌∙◌}
use Rattle.findings_rows.proofs.slips.character_at.Goals as goal

pub returns-then-starts_at : goal.returns-then-starts_at
returns-then-starts_at c = c.starts_at-then-starts_at.ensures ∙ sym (rw (sym c.starts_at.ensures ∙ c.if-starts_at.true))

pub returns-else-starts_at : goal.returns-else-starts_at
returns-else-starts_at c = c.if-starts_at.false ∙ sym (rw (sym c.starts_at.ensures ∙ c.if-starts_at.false))
