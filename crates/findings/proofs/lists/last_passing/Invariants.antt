use mathlib.Core.Path.{◌≡◌}
use Prim.Native.Nat.{◌≤◌}
use Rattle.findings.specs.Rows.{last_before}
use Rattle.findings.proofs.lists.last_passing.Given as goal

abbrev pub invariant-loop-i : goal.invariant-loop-i
invariant-loop-i g l = (l.i ≤ l.p) × (last_before (g.T.RowTest.passes l.test l.rows l.p) l.p ≡ last_before (g.T.RowTest.passes l.test l.rows l.p) l.i)
