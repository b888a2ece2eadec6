-- Nothing is left, or a marker and an exponent, or it is bad.
use Rattle.numbers.proofs.Decimals.{suffix_past, suffix_marked, suffix_bad}
use mathlib.Core.Path.{sym, ◌∙◌}
use Rattle.numbers.proofs.reals.suffix_at.Goals as goal

pub returns-then-t-from : goal.returns-then-t-from
returns-then-t-from c = suffix_past _ _ c.if-t-from.true

pub returns-then-is_marker : goal.returns-then-is_marker
returns-then-is_marker c =
    suffix_marked _ _ _ c.if-t-from.false (sym c.if-is_marker.true ∙ c.is_marker.ensures)
    c.exponent_at.ensures

pub returns-else-is_marker : goal.returns-else-is_marker
returns-else-is_marker c = suffix_bad _ _ c.if-t-from.false (sym c.if-is_marker.false ∙ c.is_marker.ensures)
