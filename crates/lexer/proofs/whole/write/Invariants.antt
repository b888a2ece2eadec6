use Rattle.lexer.specs.Reading.{size_of}
use Rattle.lexer.specs.Writing.{Writing}
use Rattle.lexer.proofs.whole.write.Given as goal

abbrev pub invariant-loop-p : goal.invariant-loop-p
invariant-loop-p l = Writing l.source l.initial.p l.initial.recs l.initial.text l.recs l.text l.p l.free l.depth l.w

abbrev pub decreases-loop-p : goal.decreases-loop-p
decreases-loop-p l = size_of l.source l.p
