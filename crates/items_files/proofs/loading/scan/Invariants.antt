use Prim.Native.Nat.{◌-◌}
use lib.ListN.{length}
use Rattle.items_files.proofs.Reader.{Scanning}
use Rattle.items_files.proofs.loading.scan.Given as goal

abbrev pub invariant-loop-i : goal.invariant-loop-i
invariant-loop-i l = Scanning l.file l.b l.n l.i

abbrev pub decreases-loop-i : goal.decreases-loop-i
decreases-loop-i l = length l.file - l.i
