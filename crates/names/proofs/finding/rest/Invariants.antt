use Prim.Native.Nat.{◌<◌}
use mathlib.Core.Path.{◌≡◌}
use lib.ListN.{drop}
use Rattle.names.specs.Call.{hashes, rest}
use Rattle.names.proofs.finding.rest.Given as goal

abbrev pub invariant-loop-i : goal.invariant-loop-i
invariant-loop-i l = (l.h < hashes) × (rest l.start (drop l.from l.name) ≡ rest l.h (drop l.i l.name))
