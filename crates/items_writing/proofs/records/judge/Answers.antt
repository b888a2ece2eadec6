-- The invariant: from this record on the definition says what it says from the first.
use borrow.Author.Tests.{not-true, not-false}
use mathlib.Core.Path.{refl, sym, ap, ◌∙◌}
use native.Mathlib.Omega.{arith}
use Rattle.items_writing.specs.declared.WriteWords.{WriteWords}
use Rattle.items_writing.specs.Records.{is_right, is_left}
use Rattle.items_writing.proofs.RightRecords.{judged_alien, judged_left, judged_on, judged_end}
use Rattle.items_writing.proofs.records.judge.Goals as goal

pub loop-p-init : goal.loop-p-init
loop-p-init c = (omega arith, refl)

pub returns-then-not-is_right : goal.returns-then-not-is_right
returns-then-not-is_right c =
    let turn = c.loop-p in
    let r = c.args.records.now in let s = c.args.source.now in let t = c.args.text.now in sym (turn.invariant.1 ∙ judged_alien r s t turn.p
    (omega arith)
    (sym (not-true c.is_right.result c.if-not-is_right.true-raw) ∙ (c.is_right.ensures ∙ ap (is_right s t) c.words_at-w.ensures)))

pub returns-then-is_left : goal.returns-then-is_left
returns-then-is_left c =
    let turn = c.loop-p in
    let r = c.args.records.now in let s = c.args.source.now in let t = c.args.text.now in sym (turn.invariant.1 ∙ judged_left r s t turn.p (omega
    arith) (sym (not-false c.is_right.result c.if-not-is_right.false-raw) ∙
    (c.is_right.ensures ∙ ap (is_right s t) c.words_at-w.ensures)) (sym c.if-is_left.true ∙
    (c.is_left.ensures ∙ ap (λ (w : WriteWords). is_left w.kind) c.words_at-w.ensures)))

pub loop-p-preserved : goal.loop-p-preserved
loop-p-preserved c =
    let turn = c.loop-p in
    let r = c.args.records.now in let s = c.args.source.now in let t = c.args.text.now in (
      omega arith,
      turn.invariant.1 ∙ judged_on r s t turn.p
          (omega arith) (sym (not-false c.is_right.result c.if-not-is_right.false-raw) ∙
          (c.is_right.ensures ∙ ap (is_right s t) c.words_at-w.ensures)) (sym c.if-is_left.false ∙
          (c.is_left.ensures ∙ ap (λ (w : WriteWords). is_left w.kind) c.words_at-w.ensures)),
    )

pub returns : goal.returns
returns c =
    let r = c.args.records.now in let s = c.args.source.now in let t = c.args.text.now in sym
    (c.loop-p.invariant.1 ∙ judged_end r s t c.loop-p.p (omega arith))
