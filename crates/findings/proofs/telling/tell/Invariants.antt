use Prim.Native.Nat.{◌/◌}
use lib.ListN.{length}
use Rattle.findings.specs.Told.{told_at}
use Rattle.findings.proofs.AllTold.{RowByRow}
use Rattle.findings.proofs.telling.tell.Given as goal

abbrev pub invariant-loop-p : goal.invariant-loop-p
invariant-loop-p l = RowByRow (told_at l.source l.rows l.list l.first l.left) (length l.rows / 10) l.initial.findings l.findings l.n l.p
