-- By the tests.
use Rattle.std.proofs.Common.{arith}
use Rattle.std.proofs.lemmas.Grind.{common_steps}
use Rattle.std.proofs.lemmas.Bool.Decides.{nat_tests}
use Rattle.items_writing.specs.Records.{is_right}
use Rattle.items_writing.proofs.records.body_of.Goals as goal

pub part-requires : goal.part-requires
unfolding is_right
part-requires c = grind (arith, nat_tests, common_steps)
