use mathlib.Core.Path.{◌≡◌}
use Rattle.findings.specs.Lines.{line_start}
use Rattle.findings.proofs.lines.line_from.Given as goal

abbrev pub invariant-loop-i : goal.invariant-loop-i
invariant-loop-i l = l.start ≡ line_start l.source l.i
