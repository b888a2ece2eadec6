-- By the tests.
use Rattle.std.proofs.Common.{arith}
use Rattle.std.proofs.lemmas.Grind.{common_steps}
use Rattle.std.proofs.lemmas.Bool.Decides.{nat_tests}
use Rattle.items_writing.specs.Records.{is_right, text_right, text_of}
use Rattle.items_writing.proofs.records.text_of.Goals as goal

pub part-requires : goal.part-requires
unfolding is_right text_right
part-requires c = grind (arith, nat_tests, common_steps)

pub part-requires-in-2 : goal.part-requires-in-2
unfolding is_right text_right
part-requires-in-2 c = grind (arith, nat_tests, common_steps)

pub returns-in-1 : goal.returns-in-1
unfolding text_of
returns-in-1 c = grind (arith, nat_tests, common_steps)

pub returns-in-2 : goal.returns-in-2
unfolding text_of
returns-in-2 c = grind (arith, nat_tests, common_steps)

pub returns-in_default : goal.returns-in_default
unfolding text_of
returns-in_default c = grind (arith, nat_tests, common_steps)
