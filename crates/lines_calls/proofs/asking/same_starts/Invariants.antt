use Prim.Native.Nat.{◌-◌}
use lib.ListN.{length}
use Rattle.lines_calls.proofs.Compared.{Comparing}
use Rattle.lines_calls.proofs.asking.same_starts.Given as goal

abbrev pub invariant-loop-at : goal.invariant-loop-at
invariant-loop-at l = Comparing l.text l.index l.j l.at

abbrev pub decreases-loop-at : goal.decreases-loop-at
decreases-loop-at l = length l.text - l.at
