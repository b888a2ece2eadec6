-- The bytes passed are equal without regard to case, so the part is w exactly if from each place on the rest is the rest of w.
use Rattle.numbers_standard.proofs.Letters.{spells_short, spells_end, spells_not, spells_more}
use mathlib.Core.Path.{sym, ◌∙◌}
use Rattle.numbers_standard.proofs.grammar.StandardNumberGrammar.spells.Goals as goal

pub returns-then-t-i : goal.returns-then-t-i
returns-then-t-i c = spells_short _ _ _ _ c.if-t-i.true c.loop-letter-test.true ∙ sym c.loop-letter.invariant

pub returns-then-lower_case-letter : goal.returns-then-lower_case-letter
returns-then-lower_case-letter c =
    spells_not _ _ _ _ c.if-t-i.false c.loop-letter-test.true _
    c.lower_case.ensures c.if-lower_case-letter.true ∙ sym c.loop-letter.invariant

pub loop-letter-preserved : goal.loop-letter-preserved
loop-letter-preserved c =
    c.loop-letter.invariant
    ∙ spells_more _ _ _ _ c.if-t-i.false c.loop-letter-test.true _
    c.lower_case.ensures c.if-lower_case-letter.false

pub returns : goal.returns
returns c =
    let a = c.args in
    spells_end a.t.now c.loop-letter.i a.w.now c.loop-letter.letter-index c.loop-letter-test.false ∙ sym c.loop-letter.invariant
