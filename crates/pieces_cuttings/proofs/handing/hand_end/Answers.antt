-- The loop keeps: what the calls that are left come to is what all come to. Each call is the next one of the definition.
use Rattle.std.proofs.Common.{◌+◌, ◌-◌, sym, refl, ap, ◌∙◌, arith}
use Rattle.pieces_cuttings.specs.Notes.{most, standing, hand_end}
use Rattle.pieces_cuttings.proofs.Handed.{no_ends, end_over, end_on}
use Rattle.pieces_cuttings.proofs.handing.hand_end.Goals as goal

pub loop-init : goal.loop-init
loop-init c = (refl, refl, refl, refl)

pub returns-then-is_some : goal.returns-then-is_some
returns-then-is_some c =
    let l = c.loop in
    sym (end_over (most - l.counter) (standing l.now l.records l.counts l.texts) (omega arith) (sym c.is_some.ensures ∙ c.if-is_some.true)) ∙ l.invariant.3

pub loop-preserved : goal.loop-preserved
loop-preserved c =
    let l = c.loop in (
      omega arith,
      omega arith,
      omega arith,
      ap (hand_end (most - (l.counter + 1))) c.call_end-now.ensures
          ∙ sym (end_on (most - l.counter) (standing l.now l.records l.counts l.texts)
          (omega arith) (most - (l.counter + 1)) (omega arith) (sym c.is_some.ensures ∙ c.if-is_some.false)) ∙ l.invariant.3,
    )

pub returns : goal.returns
returns c =
    let l = c.loop in
    sym (no_ends (most - l.counter) (standing l.now l.records l.counts l.texts) (omega arith)) ∙ l.invariant.3
