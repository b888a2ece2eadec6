use Prim.Native.Nat.{◌-◌}
use lib.ListN.{length}
use Rattle.chars.specs.Wide.{Passed}
use Rattle.items_writing.proofs.whole.good_end.Given as goal

abbrev pub invariant-loop-i : goal.invariant-loop-i
invariant-loop-i l = Passed l.t 0 l.i

abbrev pub decreases-loop-i : goal.decreases-loop-i
decreases-loop-i l = length l.t - l.i
