-- The tests are the definition's.
use Rattle.std.proofs.Common.{arith}
use Rattle.std.proofs.lemmas.Grind.{common_steps}
use Rattle.std.proofs.lemmas.Bool.Decides.{nat_tests}
use Rattle.findings.specs.Lists.{waits}
use Rattle.findings.proofs.lists.WaitingRowTest.holds.Goals as goal

pub returns-then-i-p : goal.returns-then-i-p
unfolding waits
returns-then-i-p c = grind (arith, nat_tests, common_steps)

pub returns-else-i-p : goal.returns-else-i-p
unfolding waits
returns-else-i-p c = grind (arith, nat_tests, common_steps)

pub returns-else-row-self : goal.returns-else-row-self
unfolding waits
returns-else-row-self c = grind (arith, nat_tests, common_steps)
