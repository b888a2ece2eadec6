use Prim.Native.Nat.{◌-◌}
use lib.ListN.{length}
use Rattle.lexer.specs.Writing.{ToldOn}
use Rattle.lexer.proofs.whole.put_rare.Given as goal

abbrev pub invariant-loop-at : goal.invariant-loop-at
invariant-loop-at l = ToldOn l.source l.p l.initial.recs l.free l.deep l.from l.at l.recs l.deep l.w

abbrev pub decreases-loop-at : goal.decreases-loop-at
decreases-loop-at l = length l.source - l.at
