-- The part is compared with the four texts in the order of `infnan`.
use Rattle.numbers.proofs.RealParts.{infnan_1, infnan_2, infnan_3, infnan_4, infnan_none}
use Rattle.numbers.proofs.Grammars.{infnan_is}
use mathlib.Core.Path.{sym, ◌∙◌}
use Rattle.numbers.proofs.reals.infnan_at.Goals as goal

pub returns-then-spells : goal.returns-then-spells
returns-then-spells g c =
    infnan_is g.met.G.NumberGrammar.letters _
    (infnan_1 _ (sym c.if-spells.true ∙ c.spells.ensures))

pub returns-then-spells-2 : goal.returns-then-spells-2
returns-then-spells-2 g c =
    infnan_is g.met.G.NumberGrammar.letters _
    (infnan_2 _ (sym c.if-spells.false ∙ c.spells.ensures)
    (sym c.if-spells-2.true ∙ c.spells-2.ensures))

pub returns-then-spells-3 : goal.returns-then-spells-3
returns-then-spells-3 g c =
    infnan_is g.met.G.NumberGrammar.letters _
    (infnan_3 _
    (sym c.if-spells.false ∙ c.spells.ensures)
    (sym c.if-spells-2.false ∙ c.spells-2.ensures)
    (sym c.if-spells-3.true ∙ c.spells-3.ensures))

pub returns-then-spells-4 : goal.returns-then-spells-4
returns-then-spells-4 g c =
    infnan_is g.met.G.NumberGrammar.letters _
    (infnan_4 _
    (sym c.if-spells.false ∙ c.spells.ensures)
    (sym c.if-spells-2.false ∙ c.spells-2.ensures)
    (sym c.if-spells-3.false ∙ c.spells-3.ensures)
    (sym c.if-spells-4.true ∙ c.spells-4.ensures))

pub returns : goal.returns
returns g c =
    infnan_is g.met.G.NumberGrammar.letters _
    (infnan_none _
    (sym c.if-spells.false ∙ c.spells.ensures)
    (sym c.if-spells-2.false ∙ c.spells-2.ensures)
    (sym c.if-spells-3.false ∙ c.spells-3.ensures)
    (sym c.if-spells-4.false ∙ c.spells-4.ensures))
