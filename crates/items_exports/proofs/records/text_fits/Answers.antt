-- By the tests.
use Rattle.std.proofs.Common.{arith}
use Rattle.std.proofs.lemmas.Grind.{common_steps}
use Rattle.std.proofs.lemmas.Bool.Decides.{nat_tests}
use Rattle.items_exports.specs.Records.{text_fits}
use Rattle.items_exports.proofs.records.text_fits.Goals as goal

pub returns-in-1 : goal.returns-in-1
unfolding text_fits
returns-in-1 c = grind (arith, nat_tests, common_steps)

pub returns-in-2 : goal.returns-in-2
unfolding text_fits
returns-in-2 c = grind (arith, nat_tests, common_steps)

pub returns-in_default : goal.returns-in_default
unfolding text_fits
returns-in_default c = grind (arith, nat_tests, common_steps)
