-- An error of an escape that is no character's, or no such error.
use mathlib.Core.Path.{sym, ap, ◌∙◌}
use mathlib.Core.Bool.{not}
use Rattle.findings_rows.specs.Mended.{slips}
use Rattle.findings_rows.proofs.slips.is_slip.Goals as goal

pub returns-then-is_escape_error : goal.returns-then-is_escape_error
unfolding slips
returns-then-is_escape_error c = ap not c.character_at.ensures ∙ sym (rw (sym c.is_escape_error.ensures ∙ c.if-is_escape_error.true))

pub returns-else-is_escape_error : goal.returns-else-is_escape_error
unfolding slips
returns-else-is_escape_error c =
    c.if-is_escape_error.false ∙ sym (rw (sym c.is_escape_error.ensures ∙ c.if-is_escape_error.false))
