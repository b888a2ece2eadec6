use mathlib.Core.Path.{◌≡◌}
use mathlib.Core.Bool.{true}
use Rattle.byte_runs.specs.Search.{Alike}
use Rattle.byte_runs.proofs.search.same_block.Given as goal

abbrev pub invariant-loop-j : goal.invariant-loop-j
invariant-loop-j l = (l.all ≡ true → Alike l.t l.a l.b l.j)
