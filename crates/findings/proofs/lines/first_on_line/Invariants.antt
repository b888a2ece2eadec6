use mathlib.Core.Path.{◌≡◌}
use Rattle.findings.specs.Lines.{first_on_line}
use Rattle.findings.proofs.lines.first_on_line.Given as goal

abbrev pub invariant-loop-i : goal.invariant-loop-i
invariant-loop-i l = first_on_line l.source l.a ≡ first_on_line l.source l.i
