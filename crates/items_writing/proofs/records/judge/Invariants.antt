use Prim.Native.Nat.{◌≤◌}
use mathlib.Core.Path.{◌≡◌}
use Rattle.items_writing.specs.Records.{count_of}
use Rattle.items_writing.proofs.RightRecords.{judged}
use Rattle.items_writing.proofs.records.judge.Given as goal

abbrev pub invariant-loop-p : goal.invariant-loop-p
invariant-loop-p l = (l.p ≤ count_of l.records) × (judged l.records l.source l.text l.initial.p ≡ judged l.records l.source l.text l.p)
