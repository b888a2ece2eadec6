use Prim.Native.Nat.{◌-◌}
use Rattle.items_writing.specs.Records.{count_of}
use Rattle.items_writing.specs.Pieces.{onward}
use Rattle.items_writing.proofs.RecordLoops.{Put}
use Rattle.items_writing.proofs.put.Given as goal

abbrev pub invariant-loop-p : goal.invariant-loop-p
invariant-loop-p l = Put l.records l.source l.text (onward l.records l.source l.text l.initial.first l.initial.p) l.initial.out l.out l.n l.p l.first

abbrev pub decreases-loop-p : goal.decreases-loop-p
decreases-loop-p l = count_of l.records - l.p
