-- By the tests.
use Rattle.std.proofs.Common.{arith}
use Rattle.std.proofs.lemmas.Grind.{common_steps}
use Rattle.std.proofs.lemmas.Bool.Decides.{nat_tests}
use Rattle.items_writing.specs.Records.{is_left}
use Rattle.items_writing.proofs.records.is_left.Goals as goal

pub returns-then-k-gt-FIRST_ERROR : goal.returns-then-k-gt-FIRST_ERROR
unfolding is_left
returns-then-k-gt-FIRST_ERROR c = grind (arith, nat_tests, common_steps)

pub returns-else-k-gt-FIRST_ERROR : goal.returns-else-k-gt-FIRST_ERROR
unfolding is_left
returns-else-k-gt-FIRST_ERROR c = grind (arith, nat_tests, common_steps)
