use Prim.Native.Nat.{◌-◌}
use Rattle.names.proofs.SeveralBytes.{Agree}
use Rattle.names.proofs.blocks.equal.Given as goal

abbrev pub invariant-loop-i : goal.invariant-loop-i
invariant-loop-i l = Agree l.s l.t l.i

abbrev pub decreases-loop-i : goal.decreases-loop-i
decreases-loop-i l = l.last - l.i
