use Prim.Native.Nat.{◌+◌, ◌-◌, ◌≤◌}
use mathlib.Core.Path.{◌≡◌}
use lib.ListN.{length}
use Rattle.refusal.specs.Refusals as refusal
use Rattle.items_writing.specs.Records.{count_of}
use Rattle.items_writing.specs.Pieces.{onward}
use Rattle.items_writing.proofs.measure.Given as goal

abbrev pub invariant-loop-p : goal.invariant-loop-p
invariant-loop-p l =
    (l.p ≤ count_of l.records) × (l.n ≤ refusal.limit) × (l.n + length (onward l.records l.source l.text l.first l.p) ≡ length (onward l.records l.source l.text l.initial.first l.initial.p))

abbrev pub decreases-loop-p : goal.decreases-loop-p
decreases-loop-p l = count_of l.records - l.p
