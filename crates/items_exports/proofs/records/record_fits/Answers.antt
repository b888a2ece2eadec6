-- By the tests.
use Rattle.std.proofs.Common.{arith}
use Rattle.std.proofs.lemmas.Grind.{common_steps}
use Rattle.std.proofs.lemmas.Bool.Decides.{nat_tests}
use Rattle.items_exports.specs.Records.{record_fits}
use Rattle.items_exports.proofs.records.record_fits.Goals as goal

pub returns-then-lies-2 : goal.returns-then-lies-2
unfolding record_fits
returns-then-lies-2 c = grind (arith, nat_tests, common_steps)

pub returns-else-lies-2 : goal.returns-else-lies-2
unfolding record_fits
returns-else-lies-2 c = grind (arith, nat_tests, common_steps)
