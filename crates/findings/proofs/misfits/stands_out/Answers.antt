-- The three tests.
use Rattle.std.proofs.Common.{arith}
use Rattle.std.proofs.lemmas.Grind.{common_steps}
use Rattle.std.proofs.lemmas.Bool.Decides.{nat_tests}
use Rattle.findings.proofs.misfits.stands_out.Goals as goal

pub returns-then-a-line : goal.returns-then-a-line
returns-then-a-line c = grind (arith, nat_tests, common_steps)

pub returns-else-a-line : goal.returns-else-a-line
returns-else-a-line c = grind (arith, nat_tests, common_steps)
