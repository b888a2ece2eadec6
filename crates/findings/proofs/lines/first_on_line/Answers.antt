-- The loop goes back from the place, and keeps that what stands before it there is what stands before it here.
use mathlib.Core.Path.{sym, ◌∙◌}
use Rattle.findings.proofs.LineStarts.{first_end, first_newline, first_solid, first_space}
use Rattle.findings.proofs.lines.first_on_line.Goals as goal

pub returns-then-b-eq10 : goal.returns-then-b-eq10
returns-then-b-eq10 c =
    let loop = c.loop-i in
    first_newline _ _ _ loop.invariant c.loop-i-test.true c.byte_at-b.ensures c.if-b-eq10.true

pub returns-then-not-is_space : goal.returns-then-not-is_space
returns-then-not-is_space c =
    let loop = c.loop-i in
    let loop-test = c.loop-i-test in
    let byte_at = c.byte_at-b in
    first_solid _ _ _ loop.invariant loop-test.true byte_at.ensures c.if-b-eq10.false (sym c.is_space.ensures ∙ c.if-not-is_space.true)

pub loop-i-preserved : goal.loop-i-preserved
loop-i-preserved c =
    let loop = c.loop-i in
    let loop-test = c.loop-i-test in
    let byte_at = c.byte_at-b in
    first_space _ _ _ loop.invariant loop-test.true byte_at.ensures c.if-b-eq10.false (sym c.is_space.ensures ∙ c.if-not-is_space.false)

pub returns : goal.returns
returns c = first_end _ _ _ c.loop-i.invariant c.loop-i-test.false
