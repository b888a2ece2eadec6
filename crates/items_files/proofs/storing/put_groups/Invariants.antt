use Rattle.items_files.proofs.Groups.{Putting}
use Rattle.items_files.proofs.storing.put_groups.Given as goal

abbrev pub invariant-loop-i : goal.invariant-loop-i
invariant-loop-i l = Putting l.n l.initial.out l.out l.rest l.i
