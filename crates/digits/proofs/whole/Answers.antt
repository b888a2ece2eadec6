-- Where there are digits and nothing else, their magnitude decides between Small and Big, and a Big's digits end with the text.
use Rattle.digits.proofs.Integers.{whole_no, whole_small, whole_big, whole_large}
use mathlib.Core.Path.{sym, ◌∙◌}
use Rattle.digits.proofs.whole.Goals as goal

pub small-requires : goal.small-requires
small-requires c = rw c.top_of.ensures at c.if-m-top_of.true

pub returns-then-m-top_of : goal.returns-then-m-top_of
returns-then-m-top_of c =
    whole_small _ _ _ _
    (sym c.if-unsigned.true ∙ c.unsigned.ensures)
    _ _ (sym c.in-Some.is ∙ c.magnitude_at.ensures)
    (rw c.top_of.ensures at c.if-m-top_of.true) c.small.ensures

pub returns-else-m-top_of : goal.returns-else-m-top_of
returns-else-m-top_of c =
    whole_big _ _ _ _
    (sym c.if-unsigned.true ∙ c.unsigned.ensures)
    _ (sym c.in-Some.is ∙ c.magnitude_at.ensures)
    (rw c.top_of.ensures at c.if-m-top_of.false)

pub returns-in-None : goal.returns-in-None
returns-in-None c =
    whole_large _ _ _ _ (sym c.if-unsigned.true ∙ c.unsigned.ensures)
    (sym c.in-None.is ∙ c.magnitude_at.ensures)

pub returns-else-unsigned : goal.returns-else-unsigned
returns-else-unsigned c = whole_no _ _ _ _ (sym c.if-unsigned.false ∙ c.unsigned.ensures)
