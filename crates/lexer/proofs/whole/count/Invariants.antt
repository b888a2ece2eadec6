use Rattle.lexer.specs.Reading.{size_of}
use Rattle.lexer.specs.Writing.{Counting}
use Rattle.lexer.proofs.whole.count.Given as goal

abbrev pub invariant-loop-p : goal.invariant-loop-p
invariant-loop-p l = Counting l.source l.initial.p l.p l.free l.n

abbrev pub decreases-loop-p : goal.decreases-loop-p
decreases-loop-p l = size_of l.source l.p
