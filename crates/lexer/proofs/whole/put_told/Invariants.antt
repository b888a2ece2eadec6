use Rattle.lexer.specs.Reading.{size_of}
use Rattle.lexer.specs.Writing.{told_to, ToldOn}
use Rattle.lexer.proofs.whole.put_told.Given as goal

abbrev pub invariant-loop-at : goal.invariant-loop-at
invariant-loop-at l = ToldOn l.source l.p l.initial.recs l.free l.deep l.from l.at l.recs l.depth l.w

abbrev pub decreases-loop-at : goal.decreases-loop-at
decreases-loop-at l = size_of l.source (told_to l.p l.at l.from l.w)
