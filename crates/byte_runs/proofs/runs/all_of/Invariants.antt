use mathlib.Core.Path.{◌≡◌}
use lib.Dec.{eqb, leb}
use lib.ListN.{drop}
use Rattle.laws.specs.Texts.{span}
use Rattle.byte_runs.proofs.runs.all_of.Given as goal

abbrev pub invariant-loop-j : goal.invariant-loop-j
invariant-loop-j g l = eqb l.ended 0 ≡ leb l.j (span (g.C.ByteClass.passes l.class) (drop l.at l.t))
