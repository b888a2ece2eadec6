use Prim.Native.Nat.{◌*◌}
use Rattle.items.specs.Items.{record_words}
use Rattle.items_files.proofs.Writer.{Measuring}
use Rattle.items_files.proofs.storing.measure.Given as goal

abbrev pub invariant-loop-item : goal.invariant-loop-item
invariant-loop-item l = Measuring l.words l.total l.last (l.item * record_words)
