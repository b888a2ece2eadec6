-- By the tests.
use Rattle.std.proofs.Common.{arith}
use Rattle.std.proofs.lemmas.Grind.{common_steps}
use Rattle.std.proofs.lemmas.Bool.Decides.{nat_tests}
use Rattle.items_exports.specs.Records.{opens_inside}
use Rattle.items_exports.proofs.records.opens_inside.Goals as goal

pub returns-then-records-first-eq-OPEN_PAREN : goal.returns-then-records-first-eq-OPEN_PAREN
unfolding opens_inside
returns-then-records-first-eq-OPEN_PAREN c = grind (arith, nat_tests, common_steps)

pub returns-else-records-first-eq-OPEN_PAREN : goal.returns-else-records-first-eq-OPEN_PAREN
unfolding opens_inside
returns-else-records-first-eq-OPEN_PAREN c = grind (arith, nat_tests, common_steps)
