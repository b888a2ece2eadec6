-- A sign alone implies 1 or -1; all else is a real.
use Rattle.numbers.proofs.Grammars.{imaginary_plus, imaginary_minus, imaginary-real}
use mathlib.Core.Path.{sym, ◌∙◌}
use Rattle.numbers.proofs.complexes.imaginary_at.Goals as goal

pub returns-then-equal_from : goal.returns-then-equal_from
returns-then-equal_from g c = imaginary_plus g.met.G.NumberGrammar.parts _ _ _ (sym c.if-equal_from.true ∙ c.equal_from.ensures)

pub returns-then-equal_from-2 : goal.returns-then-equal_from-2
returns-then-equal_from-2 g c =
    imaginary_minus g.met.G.NumberGrammar.parts _ _ _ (sym c.if-equal_from.false ∙ c.equal_from.ensures)
    (sym c.if-equal_from-2.true ∙ c.equal_from-2.ensures)

pub returns : goal.returns
returns g c =
    imaginary-real g.met.G.NumberGrammar.parts _ _ _ (sym c.if-equal_from.false ∙ c.equal_from.ensures) _
    (sym c.if-equal_from-2.false ∙ c.equal_from-2.ensures) c.real_at.ensures
