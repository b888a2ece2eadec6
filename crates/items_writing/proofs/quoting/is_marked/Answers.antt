-- By the tests.
use Rattle.std.proofs.Common.{arith}
use Rattle.std.proofs.lemmas.Grind.{common_steps}
use Rattle.std.proofs.lemmas.Bool.Decides.{nat_tests}
use Rattle.items_writing.proofs.quoting.is_marked.Goals as goal

pub returns-then-b-mark : goal.returns-then-b-mark
returns-then-b-mark c = grind (arith, nat_tests, common_steps)

pub returns-else-b-mark : goal.returns-else-b-mark
returns-else-b-mark c = grind (arith, nat_tests, common_steps)
