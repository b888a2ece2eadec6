use mathlib.Core.Path.{◌≡◌}
use lib.Seq.{paste}
use Rattle.names.proofs.entering.copy.Given as goal

abbrev pub invariant-loop-i : goal.invariant-loop-i
invariant-loop-i l = l.bytes ≡ paste l.initial.bytes l.at l.name l.i
