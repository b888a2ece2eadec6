use Prim.Native.Nat.{◌+◌}
use mathlib.Core.Path.{◌≡◌}
use mathlib.Core.Bool.{true}
use Rattle.byte_runs.specs.Search.{Lone}
use Rattle.byte_runs.proofs.search.lone_block.Given as goal

abbrev pub invariant-loop-j : goal.invariant-loop-j
invariant-loop-j l = (l.all ≡ true → Lone l.t l.gap l.x l.y l.at (l.at + l.j))
