use Rattle.nested.specs.Said.{Simples}
use Rattle.nested.proofs.simples_end.Given as goal

abbrev pub invariant-loop-at : goal.invariant-loop-at
invariant-loop-at l = Simples l.records l.from l.at
