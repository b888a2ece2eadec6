-- By the tests one after the other: each is asked only where those before it hold.
use mathlib.Core.Path.{sym, ◌∙◌}
use mathlib.Core.Bool.{true≢false}
use borrow.Author.Tests.{eqb-true, leb-true, leb-false}
use Rattle.lines_calls.proofs.Words.{other_length, first_wide, second_wide, third_says}
use Rattle.lines_calls.proofs.lent.is_state.Goals as goal
use Rattle.lines_calls.proofs.lent.is_state.Goals.{then-words-eq-LINE_STATE_WORDS, else-words-eq-LINE_STATE_WORDS, then-words-le-BYTE_TOP, else-words-le-BYTE_TOP}

pub returns-then-words-le-BYTE_TOP-2 : goal.returns-then-words-le-BYTE_TOP-2
returns-then-words-le-BYTE_TOP-2 c =
    let w = c.args.words.now in
    elim c.if-words-le-BYTE_TOP.branch [
      | then-words-le-BYTE_TOP u ↦ elim c.if-words-eq-LINE_STATE_WORDS.branch [
        | then-words-eq-LINE_STATE_WORDS v ↦
            third_says w v.if-words-eq-LINE_STATE_WORDS.true (leb-true _ _ (sym v.value-is ∙ u.if-words-le-BYTE_TOP.true))
            (leb-true _ _ (sym u.value-is ∙ c.if-words-le-BYTE_TOP-2.true))
        | else-words-eq-LINE_STATE_WORDS v ↦
            absurd (v.if-words-eq-LINE_STATE_WORDS.false (eqb-true _ _ (sym v.value-is ∙ u.if-words-le-BYTE_TOP.true)))
      ]
      | else-words-le-BYTE_TOP u ↦ absurd (true≢false (sym c.if-words-le-BYTE_TOP-2.true ∙ u.value-is ∙ u.if-words-le-BYTE_TOP.false))
    ]

pub returns-else-words-le-BYTE_TOP-2 : goal.returns-else-words-le-BYTE_TOP-2
returns-else-words-le-BYTE_TOP-2 c =
    let w = c.args.words.now in
    c.if-words-le-BYTE_TOP-2.false ∙ elim c.if-words-le-BYTE_TOP.branch [
      | then-words-le-BYTE_TOP u ↦ elim c.if-words-eq-LINE_STATE_WORDS.branch [
        | then-words-eq-LINE_STATE_WORDS v ↦
            second_wide w v.if-words-eq-LINE_STATE_WORDS.true (leb-true _ _ (sym v.value-is ∙ u.if-words-le-BYTE_TOP.true))
            (leb-false _ _ (sym u.value-is ∙ c.if-words-le-BYTE_TOP-2.false))
        | else-words-eq-LINE_STATE_WORDS v ↦ other_length w v.if-words-eq-LINE_STATE_WORDS.false
      ]
      | else-words-le-BYTE_TOP u ↦ elim c.if-words-eq-LINE_STATE_WORDS.branch [
        | then-words-eq-LINE_STATE_WORDS v ↦
            first_wide w v.if-words-eq-LINE_STATE_WORDS.true (leb-false _ _ (sym v.value-is ∙ u.if-words-le-BYTE_TOP.false))
        | else-words-eq-LINE_STATE_WORDS v ↦ other_length w v.if-words-eq-LINE_STATE_WORDS.false
      ]
    ]
