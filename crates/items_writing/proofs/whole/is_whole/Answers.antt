-- By the tests.
use Rattle.std.proofs.Common.{arith}
use Rattle.std.proofs.lemmas.Grind.{common_steps}
use Rattle.std.proofs.lemmas.Bool.Decides.{nat_tests}
use Rattle.items_writing.specs.Records.{is_whole}
use Rattle.items_writing.proofs.whole.is_whole.Goals as goal

pub returns-then-to-s : goal.returns-then-to-s
unfolding is_whole
returns-then-to-s c = grind (arith, nat_tests, common_steps)

pub returns-else-to-s : goal.returns-else-to-s
unfolding is_whole
returns-else-to-s c = grind (arith, nat_tests, common_steps)
