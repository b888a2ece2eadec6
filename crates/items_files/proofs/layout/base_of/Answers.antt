-- By the tests.
use Rattle.std.proofs.Common.{arith}
use Rattle.std.proofs.lemmas.Grind.{common_steps}
use Rattle.std.proofs.lemmas.Bool.Decides.{nat_tests}
use Rattle.items_files.specs.Layout.{base}
use Rattle.items_files.proofs.layout.base_of.Goals as goal

pub returns-in-2 : goal.returns-in-2
unfolding base
returns-in-2 c = grind (arith, nat_tests, common_steps)

pub returns-in-3 : goal.returns-in-3
unfolding base
returns-in-3 c = grind (arith, nat_tests, common_steps)

pub returns-in_default : goal.returns-in_default
unfolding base
returns-in_default c = grind (arith, nat_tests, common_steps)
