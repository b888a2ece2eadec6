use Prim.Native.Nat.{◌≤◌}
use mathlib.Core.Path.{◌≡◌}
use Rattle.items_exports.specs.Records.{open_before}
use Rattle.items_exports.proofs.records.open_before.Given as goal

abbrev pub invariant-loop-q : goal.invariant-loop-q
invariant-loop-q l = (l.q ≤ l.p) × (open_before l.records l.depth l.none l.q ≡ open_before l.records l.depth l.none l.p)
