use Rattle.items_files.proofs.Laid.{Laying}
use Rattle.items_files.proofs.storing.put_numbers.Given as goal

abbrev pub invariant-loop-n : goal.invariant-loop-n
invariant-loop-n l = Laying l.n-items l.initial.out l.out l.at l.n-index
