use Rattle.items_files.proofs.Reader.{Numbering}
use Rattle.items_files.proofs.loading.groups_at.Given as goal

abbrev pub invariant-loop-i : goal.invariant-loop-i
invariant-loop-i l = Numbering l.file l.at l.value l.weight l.i
