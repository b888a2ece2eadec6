-- By the tests.
use Rattle.std.proofs.Common.{arith}
use Rattle.std.proofs.lemmas.Grind.{common_steps}
use Rattle.std.proofs.lemmas.Bool.Decides.{nat_tests}
use Rattle.items_writing.proofs.records.is_extent.Goals as goal

pub returns-then-w : goal.returns-then-w
returns-then-w c = grind (arith, nat_tests, common_steps)

pub returns-else-w : goal.returns-else-w
returns-else-w c = grind (arith, nat_tests, common_steps)
