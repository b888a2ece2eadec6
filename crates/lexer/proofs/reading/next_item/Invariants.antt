use Rattle.lexer.specs.Reading.{size_of}
use Rattle.lexer.proofs.Nexts.{Seeking}
use Rattle.lexer.proofs.reading.next_item.Given as goal

abbrev pub invariant-loop-found : goal.invariant-loop-found
invariant-loop-found l = Seeking l.source l.free l.initial.p l.p

abbrev pub decreases-loop-found : goal.decreases-loop-found
decreases-loop-found l = size_of l.source l.p
