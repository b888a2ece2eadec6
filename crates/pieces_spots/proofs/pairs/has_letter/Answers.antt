-- The tests say it (TwoBytes: letter-on).
use native.Mathlib.Omega.{arith}
use mathlib.Core.Path.{sym, ◌∙◌}
use mathlib.Core.Bool.{true≢false}
use borrow.Author.Tests.{leb-true}
use Rattle.pieces_spots.proofs.TwoBytes.{letter_on}
use Rattle.pieces_spots.proofs.pairs.has_letter.Goals as goal
use Rattle.pieces_spots.proofs.pairs.has_letter.Goals.{then-piece-i-ge-TWO_BYTES, else-piece-i-ge-TWO_BYTES, then-is_letter, else-is_letter}

pub returns-then-s : goal.returns-then-s
returns-then-s c = λ e.
    let a = c.args in
    let s = a.s in
    elim c.if-is_letter.branch [
      | then-is_letter u ↦ elim c.if-piece-i-ge-TWO_BYTES.branch [
        | then-piece-i-ge-TWO_BYTES v ↦
            let two = v.if-piece-i-ge-TWO_BYTES.true in
            let letter = v.is_letter.ensures (sym v.value-is ∙ u.if-is_letter.true) in
            let few = leb-true _ _ (sym u.value-is ∙ c.if-s.true) in
            record {
              inside = omega (arith, two);
              room = omega (arith, few);
              on = λ buf fits. letter_on s buf a.piece.now fits (omega (arith, two)) (omega (arith, few)) letter (c.carries.ensures e s.which);
            }
        | else-piece-i-ge-TWO_BYTES v ↦
            let two = leb-true _ _ (sym v.value-is ∙ u.if-is_letter.true) in
            absurd (omega (arith, two, v.if-piece-i-ge-TWO_BYTES.false))
      ]
      | else-is_letter u ↦ absurd (true≢false (sym c.if-s.true ∙ u.value-is ∙ u.if-is_letter.false))
    ]
