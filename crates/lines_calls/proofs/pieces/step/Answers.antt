-- By the cases of `step_of`.
use mathlib.Core.Path.{sym, ◌∙◌}
use Rattle.lines.proofs.Feeding.{step_stands, step_full, step_counts, step_did}
use Rattle.lines_calls.proofs.pieces.step.Goals as goal

pub returns-then-t-eq-TOO_LONG : goal.returns-then-t-eq-TOO_LONG
returns-then-t-eq-TOO_LONG c = sym (step_stands c.args.t c.args.b c.if-t-eq-TOO_LONG.true)

pub returns-then-t-eq-LAST_PLACE : goal.returns-then-t-eq-LAST_PLACE
returns-then-t-eq-LAST_PLACE c =
    c.stopped.ensures ∙ sym (step_full c.args.t c.args.b c.if-t-eq-TOO_LONG.false c.if-t-eq-LAST_PLACE.true)

pub returns-then-t-eq-NOT_UTF8 : goal.returns-then-t-eq-NOT_UTF8
returns-then-t-eq-NOT_UTF8 c =
    c.stopped-then-t-eq-NOT_UTF8.ensures ∙ sym (step_counts c.args.t c.args.b
    c.if-t-eq-TOO_LONG.false c.if-t-eq-LAST_PLACE.false c.if-t-eq-NOT_UTF8.true)

pub returns-in-More : goal.returns-in-More
returns-in-More c =
    c.moved.ensures ∙ sym (step_did c.args.t c.args.b c.if-t-eq-TOO_LONG.false
    c.if-t-eq-LAST_PLACE.false
    c.if-t-eq-NOT_UTF8.false (sym c.byte_step.ensures ∙ c.in-More.is))

pub returns-in-Char : goal.returns-in-Char
returns-in-Char c =
    (rw c.between.ensures at c.moved-in-Char.ensures) ∙ sym (step_did c.args.t
    c.args.b c.if-t-eq-TOO_LONG.false c.if-t-eq-LAST_PLACE.false
    c.if-t-eq-NOT_UTF8.false (sym c.byte_step.ensures ∙ c.in-Char.is))

pub returns-in-Bad : goal.returns-in-Bad
returns-in-Bad c =
    c.stopped-in-Bad.ensures ∙ sym (step_did c.args.t c.args.b c.if-t-eq-TOO_LONG.false
    c.if-t-eq-LAST_PLACE.false
    c.if-t-eq-NOT_UTF8.false (sym c.byte_step.ensures ∙ c.in-Bad.is))
