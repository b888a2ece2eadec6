-- A tab, or as many marks as there are columns.
use mathlib.Core.Path.{sym, ◌∙◌}
use Rattle.findings_render_parts.specs.Shown.{under_one}
use Rattle.findings_render_parts.proofs.characters.UnderWalker.put_one.Goals as goal

pub returns-then-is_copied : goal.returns-then-is_copied
unfolding under_one
returns-then-is_copied c =
    rw (sym c.is_copied.ensures ∙ c.if-is_copied.true) c.put_byte.ensures

pub returns : goal.returns
unfolding under_one
returns c =
    rw (sym c.is_copied.ensures ∙ c.if-is_copied.false) (rw c.columns_of.ensures at c.put_run.ensures)
