-- The tests say it (TwoBytes: escape-on).
use native.Mathlib.Omega.{arith}
use mathlib.Core.Path.{sym, ◌∙◌}
use mathlib.Core.Bool.{true≢false}
use borrow.Author.Tests.{eqb-true, leb-true}
use Rattle.pieces_spots.proofs.TwoBytes.{escape_on}
use Rattle.pieces_spots.proofs.pairs.has_escape.Goals as goal
use Rattle.pieces_spots.proofs.pairs.has_escape.Goals.{then-piece-i-eq92, else-piece-i-eq92, then-piece-i-ge-TWO_BYTES, else-piece-i-ge-TWO_BYTES}

pub returns-then-s : goal.returns-then-s
returns-then-s c = λ e.
    let a = c.args in
    let s = a.s in
    elim c.if-piece-i-ge-TWO_BYTES.branch [
      | then-piece-i-ge-TWO_BYTES u ↦ elim c.if-piece-i-eq92.branch [
        | then-piece-i-eq92 v ↦
            let two = leb-true _ _ (sym v.value-is ∙ u.if-piece-i-ge-TWO_BYTES.true) in
            let few = leb-true _ _ (sym u.value-is ∙ c.if-s.true) in
            record {
              inside = omega (arith, two);
              room = omega (arith, few);
              on = λ buf fits. escape_on s buf a.piece.now fits (omega (arith, two)) (omega (arith, few)) v.if-piece-i-eq92.true (c.is_escape.ensures e s.which);
            }
        | else-piece-i-eq92 v ↦ absurd (v.if-piece-i-eq92.false (eqb-true _ _ (sym v.value-is ∙ u.if-piece-i-ge-TWO_BYTES.true)))
      ]
      | else-piece-i-ge-TWO_BYTES u ↦ absurd (true≢false (sym c.if-s.true ∙ u.value-is ∙ u.if-piece-i-ge-TWO_BYTES.false))
    ]
