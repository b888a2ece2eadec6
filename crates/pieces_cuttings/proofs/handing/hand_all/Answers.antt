-- The loop keeps: what the pieces that are left come to is what all come to. Each piece is the next one of the definition.
use Rattle.std.proofs.Common.{◌+◌, ◌-◌, sym, refl, ◌∙◌, arith}
use Rattle.pieces_cuttings.specs.Notes.{most, standing}
use Rattle.pieces_cuttings.proofs.Handed.{no_pieces, all_over, all_taken, all_on}
use Rattle.pieces_cuttings.proofs.handing.hand_all.Goals as goal

pub loop-init : goal.loop-init
loop-init c = (refl, refl, refl, refl)

pub returns-then-is_some : goal.returns-then-is_some
returns-then-is_some c =
    let l = c.loop in
    sym (all_over _ _ (most - l.counter) l.size (standing l.now l.records l.counts l.texts) (omega arith) (sym c.is_some.ensures ∙ c.if-is_some.true)) ∙ l.invariant.3

pub returns-then-source-now : goal.returns-then-source-now
returns-then-source-now c =
    let l = c.loop in
    sym (all_taken _ _ (most - l.counter) l.size (standing l.now l.records l.counts l.texts) (omega arith)
    (sym c.is_some.ensures ∙ c.if-is_some.false) c.if-source-now.true) ∙ l.invariant.3

pub loop-preserved : goal.loop-preserved
loop-preserved c =
    let l = c.loop in (
      omega arith,
      omega arith,
      omega arith,
      sym (all_on _ _ (most - l.counter) l.size (standing l.now l.records l.counts l.texts)
          (omega arith) (most - (l.counter + 1)) (omega arith)
          (sym c.is_some.ensures ∙ c.if-is_some.false) c.if-source-now.false
          c.piece_end-to.ensures c.hand_over-now.ensures
          c.next_size-size.ensures) ∙ l.invariant.3,
    )

pub returns : goal.returns
returns c =
    let l = c.loop in
    sym (no_pieces _ _ (most - l.counter) l.size (standing l.now l.records l.counts l.texts) (omega arith)) ∙ l.invariant.3
