-- By the tests.
use Rattle.std.proofs.Common.{arith}
use Rattle.std.proofs.lemmas.Grind.{common_steps}
use Rattle.std.proofs.lemmas.Bool.Decides.{nat_tests}
use Rattle.items_writing.specs.Pieces.{form_for}
use Rattle.items_writing.proofs.turning.form_for.Goals as goal

pub returns-in-27 : goal.returns-in-27
unfolding form_for
returns-in-27 c = grind (arith, nat_tests, common_steps)

pub returns-in-27-2 : goal.returns-in-27-2
unfolding form_for
returns-in-27-2 c = grind (arith, nat_tests, common_steps)

pub returns-in-30 : goal.returns-in-30
unfolding form_for
returns-in-30 c = grind (arith, nat_tests, common_steps)

pub returns-in_default : goal.returns-in_default
unfolding form_for
returns-in_default c = grind (arith, nat_tests, common_steps)
