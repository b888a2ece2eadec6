use Prim.Native.Nat.{◌-◌}
use lib.ListN.{length}
use Rattle.lexer.specs.Writing.{ToldOn}
use Rattle.lexer.proofs.whole.put_known.Given as goal

abbrev pub invariant-loop-got : goal.invariant-loop-got
invariant-loop-got l = ToldOn l.source l.p l.initial.recs l.free l.deep l.from l.got.at l.recs l.got.depth l.got.words

abbrev pub decreases-loop-got : goal.decreases-loop-got
decreases-loop-got l = length l.initial.recs - l.got.words
