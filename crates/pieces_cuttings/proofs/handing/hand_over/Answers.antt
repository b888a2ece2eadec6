-- The loop keeps: what the calls that are left come to is what all come to. Each call is the next one of the definition.
use Rattle.std.proofs.Common.{◌+◌, ◌-◌, sym, refl, ◌∙◌, arith}
use Rattle.pieces_cuttings.specs.Notes.{most, standing}
use Rattle.pieces_cuttings.proofs.Handed.{no_calls, piece_over, piece_taken, piece_on}
use Rattle.pieces_cuttings.proofs.handing.hand_over.Goals as goal

pub loop-init : goal.loop-init
loop-init c = (refl, refl, refl, refl)

pub returns-then-is_some : goal.returns-then-is_some
returns-then-is_some c =
    let l = c.loop in
    sym (piece_over _ _ (most - l.counter) (standing l.now l.records l.counts l.texts)
    (omega arith) c.call_piece-now.ensures (sym c.is_some.ensures ∙ c.if-is_some.true)) ∙ l.invariant.3

pub returns-then-to-now : goal.returns-then-to-now
returns-then-to-now c =
    let l = c.loop in
    sym (piece_taken _ _ (most - l.counter) (standing l.now l.records l.counts l.texts)
    (omega arith)
    c.call_piece-now.ensures (sym c.is_some.ensures ∙ c.if-is_some.false) c.if-to-now.true) ∙ l.invariant.3

pub loop-preserved : goal.loop-preserved
loop-preserved c =
    let l = c.loop in (
      omega arith,
      omega arith,
      omega arith,
      sym (piece_on _ _ (most - l.counter) (standing l.now l.records l.counts l.texts)
          (omega arith)
          c.call_piece-now.ensures (most - (l.counter + 1)) (omega arith) (sym c.is_some.ensures ∙ c.if-is_some.false) c.if-to-now.false) ∙ l.invariant.3,
    )

pub returns : goal.returns
returns c =
    let l = c.loop in
    sym (no_calls _ _ (most - l.counter) (standing l.now l.records l.counts l.texts) (omega arith)) ∙ l.invariant.3
