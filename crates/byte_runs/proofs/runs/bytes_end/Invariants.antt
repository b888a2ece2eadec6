use Prim.Native.Nat.{◌+◌}
use mathlib.Core.Path.{◌≡◌}
use lib.ListN.{drop}
use Rattle.laws.specs.Texts.{span}
use Rattle.byte_runs.proofs.runs.bytes_end.Given as goal

abbrev pub invariant-loop-i : goal.invariant-loop-i
invariant-loop-i g l = l.i + span (g.C.ByteClass.passes l.class) (drop l.i l.t) ≡ l.from + span (g.C.ByteClass.passes l.class) (drop l.from l.t)
