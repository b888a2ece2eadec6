-- By the tests.
use Rattle.std.proofs.Common.{arith}
use Rattle.std.proofs.lemmas.Grind.{common_steps}
use Rattle.std.proofs.lemmas.Bool.Decides.{nat_tests}
use Rattle.items_files.specs.Layout.{goes_back}
use Rattle.items_files.proofs.storing.goes_back.Goals as goal

pub returns-then-r-2 : goal.returns-then-r-2
unfolding goes_back
returns-then-r-2 c = grind (arith, nat_tests, common_steps)

pub returns-else-r-2 : goal.returns-else-r-2
unfolding goes_back
returns-else-r-2 c = grind (arith, nat_tests, common_steps)
