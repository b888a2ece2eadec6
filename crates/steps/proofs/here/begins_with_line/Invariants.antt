use Prim.Native.Nat.{◌≤◌}
use mathlib.Core.Path.{◌≡◌}
use lib.ListN.{length, drop}
use Rattle.laws.specs.Texts.{begins}
use Rattle.items.specs.Readers.{unreturned}
use Rattle.steps.proofs.here.begins_with_line.Given as goal

abbrev pub invariant-loop-b : goal.invariant-loop-b
invariant-loop-b l =
    (begins (unreturned l.line) l.text ≡ begins (unreturned (drop l.b-index l.line)) (drop l.j l.text)) × (l.j ≤ length l.text)
