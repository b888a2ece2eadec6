use Rattle.items_writing.proofs.QuotedBytes.{Laid}
use Rattle.items_writing.proofs.quoting.put_escaped.Given as goal

abbrev pub invariant-loop-b : goal.invariant-loop-b
invariant-loop-b l = Laid l.mark l.t l.initial.out l.out l.n l.b-index
