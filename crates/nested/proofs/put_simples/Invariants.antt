use mathlib.Core.Path.{◌≡◌}
use Prim.Native.Nat.{◌+◌, ◌-◌}
use lib.ListN.{length}
use Rattle.nested.specs.Said.{Run}
use Rattle.nested.proofs.put_simples.Given as goal

abbrev pub invariant-loop-at : goal.invariant-loop-at
invariant-loop-at l = (length l.nodes ≡ length l.initial.nodes) × (l.v + l.from ≡ l.w + l.at) × Run l.records l.from l.w l.initial.nodes l.nodes l.at

abbrev pub decreases-loop-at : goal.decreases-loop-at
decreases-loop-at l = l.limit - l.at
