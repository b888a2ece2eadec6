-- The loop keeps that what is swallowed from place i on is what is swallowed at all.
use mathlib.Core.Path.{sym, ap, ◌∙◌}
use mathlib.Core.Bool.{Bool}
use Prim.Native.Nat.{◌+◌}
use lib.ListN.{drop}
use Rattle.findings.specs.Slips.{swallows}
use Rattle.findings.proofs.Swallows.{swallow_end, swallow_newline, swallow_open, swallow_on}
use Rattle.findings.proofs.swallowing.has_swallowed.Goals as goal
use Rattle.findings.proofs.swallowing.has_swallowed.Goals.{then-b-eq10, else-b-eq10+else-opens_line}

pub returns-then-opens_line : goal.returns-then-opens_line
returns-then-opens_line c =
    let loop = c.loop-b in
    sym (swallow_open c.args.part.now loop.b-index loop.fresh c.loop-b-test.true c.if-b-eq10.false (sym c.opens_line.ensures ∙ c.if-opens_line.true))
    ∙ loop.invariant

pub loop-b-preserved : goal.loop-b-preserved
loop-b-preserved c =
    let loop = c.loop-b in
    let s = c.args.part.now in
    let i = loop.b-index in
    elim c.if-b-eq10.branch [
      | then-b-eq10 w ↦
          ap (λ (b : Bool). swallows b (drop (i + 1) s)) w.fresh-is
          ∙ sym (swallow_newline s i loop.fresh c.loop-b-test.true w.if-b-eq10.true) ∙ loop.invariant
      | else-b-eq10+else-opens_line w ↦
          ap (λ (b : Bool). swallows b (drop (i + 1) s)) (w.fresh-is ∙ w.stays_fresh-fresh.ensures)
          ∙ sym (swallow_on s i loop.fresh c.loop-b-test.true w.if-b-eq10.false (sym w.opens_line.ensures ∙ w.if-opens_line.false))
          ∙ loop.invariant
    ]

pub returns : goal.returns
returns c = sym (swallow_end c.args.part.now c.loop-b.b-index c.loop-b.fresh c.loop-b-test.false) ∙ c.loop-b.invariant
