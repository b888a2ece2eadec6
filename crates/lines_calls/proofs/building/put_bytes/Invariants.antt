use Rattle.lines_calls.specs.Left.{Storing}
use Rattle.lines_calls.proofs.building.put_bytes.Given as goal

abbrev pub invariant-loop-i : goal.invariant-loop-i
invariant-loop-i l = Storing l.text l.initial.index l.n l.from l.index l.k l.i
