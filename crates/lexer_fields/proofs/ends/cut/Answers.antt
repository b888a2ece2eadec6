-- The ends left say what all say; that one of them lay inside a character is noted.
use mathlib.Core.Path.{refl, sym, ap, ◌∙◌}
use mathlib.Core.Bool.{Bool, true, false}
use native.Mathlib.Omega.{arith}
use lib.ListN.{length}
use Rattle.lexer_fields.specs.Fields.{is_in_order}
use Rattle.lexer_fields.specs.Answers.{between, cutting_of}
use Rattle.lexer_fields.proofs.Ordered.{ends_done, goes_back, goes_past, end_follows}
use Rattle.lexer_fields.proofs.Cuts.{between_done, inside_noted, outside_noted}
use Rattle.lexer_fields.proofs.ends.cut.Goals as goal
use Rattle.lexer_fields.proofs.ends.cut.Goals.{then-end-from-via-then-end-from, then-end-from-via-else-end-from+then-n-end, then-continues, else-continues}

pub loop-place-init : goal.loop-place-init
loop-place-init c = (omega arith, refl, refl)

pub returns-then-end-from : goal.returns-then-end-from
returns-then-end-from c =
    let n = length c.args.source.now in
    let l = c.loop-place in
    ap (λ (o : Bool). cutting_of o (between c.args.source.now c.args.ends.now)) (elim c.then-end-from.branch [
      | then-end-from-via-then-end-from w ↦
          goes_back n c.args.ends.now l.place-index l.from c.loop-place-test.true w.if-end-from.true
      | then-end-from-via-else-end-from+then-n-end w ↦
          goes_past n c.args.ends.now l.place-index l.from c.loop-place-test.true w.if-end-from.false w.if-n-end.true
    ] ∙ c.loop-place.invariant.1)

pub loop-place-preserved : goal.loop-place-preserved
loop-place-preserved c =
    let source = c.args.source.now in
    let ends = c.args.ends.now in
    let l = c.loop-place in
    let order = end_follows (length source) ends l.place-index l.from c.loop-place-test.true c.if-end-from.false c.if-n-end.false ∙ l.invariant.1 in
    elim c.if-continues.branch [
      | then-continues w ↦ rw (w.inside-is, w.from-is) (
        omega (arith, c.loop-place-test.true),
        order,
        inside_noted source ends l.place-index c.loop-place-test.true l.inside l.invariant.2 (sym c.continues.ensures ∙ w.if-continues.true),
      )
      | else-continues w ↦ rw (w.inside-is, w.from-is) (
        omega (arith, c.loop-place-test.true),
        order,
        outside_noted source ends l.place-index c.loop-place-test.true l.inside l.invariant.2 (sym c.continues.ensures ∙ w.if-continues.false),
      )
    ]

pub returns-then-inside : goal.returns-then-inside
returns-then-inside c =
    let source = c.args.source.now in
    let ends = c.args.ends.now in
    let ordered = ends_done (length source) ends c.loop-place.place-index c.loop-place.from c.loop-place-test.false ∙ c.loop-place.invariant.1 in
    ap (λ (o : Bool). cutting_of o false) ordered ∙ ap (cutting_of (is_in_order (length source) 0 ends)) (rw c.if-inside.true at c.loop-place.invariant.2)

pub returns : goal.returns
returns c =
    let source = c.args.source.now in
    let ends = c.args.ends.now in
    let ordered = ends_done (length source) ends c.loop-place.place-index c.loop-place.from c.loop-place-test.false ∙ c.loop-place.invariant.1 in
    ap (λ (o : Bool). cutting_of o true) ordered
    ∙ ap (cutting_of (is_in_order (length source) 0 ends)) (between_done source ends c.loop-place.place-index c.loop-place-test.false ∙ (rw c.if-inside.false at c.loop-place.invariant.2))
