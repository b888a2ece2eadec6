-- By the tests.
use Rattle.std.proofs.Common.{arith}
use Rattle.std.proofs.lemmas.Grind.{common_steps}
use Rattle.std.proofs.lemmas.Bool.Decides.{nat_tests}
use Rattle.items_writing.specs.Records.{text_right}
use Rattle.items_writing.proofs.records.text_right.Goals as goal

pub returns-then-is_inside : goal.returns-then-is_inside
unfolding text_right
returns-then-is_inside c = grind (arith, nat_tests, common_steps)

pub returns-else-is_inside : goal.returns-else-is_inside
unfolding text_right
returns-else-is_inside c = grind (arith, nat_tests, common_steps)

pub returns-in-2 : goal.returns-in-2
unfolding text_right
returns-in-2 c = grind (arith, nat_tests, common_steps)

pub returns-in-0 : goal.returns-in-0
unfolding text_right
returns-in-0 c = grind (arith, nat_tests, common_steps)

pub returns-in_default : goal.returns-in_default
unfolding text_right
returns-in_default c = grind (arith, nat_tests, common_steps)
