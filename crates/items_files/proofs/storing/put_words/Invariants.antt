use Prim.Native.Nat.{◌*◌}
use Rattle.items.specs.Items.{record_words}
use Rattle.items_files.proofs.Writer.{Filing}
use Rattle.items_files.proofs.storing.put_words.Given as goal

abbrev pub invariant-loop-item : goal.invariant-loop-item
invariant-loop-item l = Filing l.words l.initial.out l.out l.at l.last (l.item * record_words)
