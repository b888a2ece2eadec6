use Prim.Native.Nat.{◌≤◌}
use Rattle.lexer.specs.Reading.{size_of}
use Rattle.lexer.specs.Writing.{Further, told_to}
use Rattle.lexer.proofs.whole.count_told.Given as goal

abbrev pub invariant-loop-at : goal.invariant-loop-at
invariant-loop-at l = (l.from ≤ l.n) × Further l.source l.p l.from (told_to l.p l.at l.from l.n) l.n

abbrev pub decreases-loop-at : goal.decreases-loop-at
decreases-loop-at l = size_of l.source (told_to l.p l.at l.from l.n)
