use Rattle.items_files.proofs.Laid.{Counting}
use Rattle.items_files.proofs.storing.counts.Given as goal

abbrev pub invariant-loop-n : goal.invariant-loop-n
invariant-loop-n l = Counting l.n-items l.total l.n-index
