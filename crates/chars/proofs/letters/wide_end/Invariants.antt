use Prim.Native.Nat.{◌-◌}
use lib.ListN.{length}
use Rattle.chars.specs.Wide.{Wides}
use Rattle.chars.proofs.letters.wide_end.Given as goal

abbrev pub invariant-loop-n : goal.invariant-loop-n
invariant-loop-n l = Wides l.s l.from l.i

abbrev pub decreases-loop-n : goal.decreases-loop-n
decreases-loop-n l = length l.s - l.i
