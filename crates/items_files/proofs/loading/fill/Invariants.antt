use Prim.Native.Nat.{◌-◌}
use lib.ListN.{length}
use Rattle.items_files.proofs.Filler.{Filling}
use Rattle.items_files.proofs.loading.fill.Given as goal

abbrev pub invariant-loop-i : goal.invariant-loop-i
invariant-loop-i l = Filling l.file l.initial.records l.records l.b l.n l.i

abbrev pub decreases-loop-i : goal.decreases-loop-i
decreases-loop-i l = length l.file - l.i
