-- The tests of the definition; a text that is all of its extent is whole with it (law `extent_right`).
use Rattle.std.proofs.Common.{arith}
use Rattle.std.proofs.lemmas.Grind.{common_steps}
use Rattle.std.proofs.lemmas.Bool.Decides.{nat_tests}
use Rattle.items_writing.specs.Records.{is_right}
use Rattle.items_writing.proofs.RightRecords.{extent_right}
use Rattle.items_writing.proofs.records.is_right.Goals as goal

pub text_right-requires : goal.text_right-requires
unfolding is_right
text_right-requires c = grind (arith, nat_tests, common_steps, extent_right)

pub returns-then-is_extent : goal.returns-then-is_extent
unfolding is_right
returns-then-is_extent c = grind (arith, nat_tests, common_steps, extent_right)

pub returns-else-is_extent : goal.returns-else-is_extent
unfolding is_right
returns-else-is_extent c = grind (arith, nat_tests, common_steps, extent_right)

pub returns-else-is_whole : goal.returns-else-is_whole
unfolding is_right
returns-else-is_whole c = grind (arith, nat_tests, common_steps, extent_right)
