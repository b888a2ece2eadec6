-- One at least.
use mathlib.Core.Path.{sym, ◌∙◌}
use Rattle.findings_render_parts.specs.Shown.{carets}
use Rattle.findings_render_parts.proofs.characters.put_carets.Goals as goal

pub returns-then-is_flat : goal.returns-then-is_flat
unfolding carets
returns-then-is_flat c =
    rw (sym c.is_flat.ensures ∙ c.if-is_flat.true) c.put.ensures

pub returns : goal.returns
unfolding carets
returns c =
    rw (sym c.is_flat.ensures ∙ c.if-is_flat.false) c.put_under.ensures
