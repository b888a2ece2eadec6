-- The tests are the definition's.
use Rattle.std.proofs.Common.{arith}
use Rattle.std.proofs.lemmas.Grind.{common_steps}
use Rattle.std.proofs.lemmas.Bool.Decides.{nat_tests}
use Rattle.findings.specs.Slips.{comma_follows}
use Rattle.findings.proofs.slips.comma_follows.Goals as goal

pub returns-then-comma-row : goal.returns-then-comma-row
unfolding comma_follows
returns-then-comma-row c = grind (arith, nat_tests, common_steps)

pub returns-else-comma-row : goal.returns-else-comma-row
unfolding comma_follows
returns-else-comma-row c = grind (arith, nat_tests, common_steps)
