-- A word of the table, a word of one byte, any other by its first byte.
use Rattle.std.proofs.Common.{arith}
use Rattle.std.proofs.lemmas.Grind.{common_steps}
use Rattle.std.proofs.lemmas.Bool.Decides.{nat_tests}
use Rattle.items_writing.proofs.WordTurns.{name_kind, name_short, name_long}
use Rattle.items_writing.proofs.word.name_word.Goals as goal

pub returns-then-raw-le1 : goal.returns-then-raw-le1
returns-then-raw-le1 c = grind (arith, nat_tests, common_steps, name_kind, name_short, name_long)

pub returns-else-raw-le1 : goal.returns-else-raw-le1
returns-else-raw-le1 c = grind (arith, nat_tests, common_steps, name_kind, name_short, name_long)
