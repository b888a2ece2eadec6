-- The loop keeps that the line of the place i starts at `start`.
use mathlib.Core.Path.{sym, ◌∙◌}
use Rattle.findings.specs.Lines.{line_start}
use Rattle.findings.proofs.LineStarts.{line_next, line_same}
use Rattle.findings.proofs.lines.line_from.Goals as goal
use Rattle.findings.proofs.lines.line_from.Goals.{then-to-from, else-to-from, then-byte_at-eq10, else-byte_at-eq10}

pub loop-i-init : goal.loop-i-init
unfolding line_start
loop-i-init c =
    elim c.if-to-from.branch [
      | then-to-from w ↦ rw w.first-is
      | else-to-from w ↦ rw w.first-is c.requires
    ]

pub loop-i-preserved : goal.loop-i-preserved
loop-i-preserved c =
    let loop = c.loop-i in
    let s = c.args.source.now in
    elim c.if-byte_at-eq10.branch [
      | then-byte_at-eq10 w ↦ w.start-is ∙ sym (line_next s loop.i c.byte_at.ensures w.if-byte_at-eq10.true)
      | else-byte_at-eq10 w ↦ w.start-is ∙ loop.invariant ∙ sym (line_same s loop.i c.byte_at.ensures w.if-byte_at-eq10.false)
    ]
