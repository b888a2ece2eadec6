use Rattle.lines.proofs.Feeding.{Feeding}
use Rattle.lines_calls.proofs.pieces.feed.Given as goal

abbrev pub invariant-loop-b : goal.invariant-loop-b
invariant-loop-b l = Feeding l.initial.t l.bytes l.initial.index l.t l.index l.b-index
