-- The tests are the definition's.
use Rattle.std.proofs.Common.{arith}
use Rattle.std.proofs.lemmas.Grind.{common_steps}
use Rattle.std.proofs.lemmas.Bool.Decides.{nat_tests}
use Rattle.findings.specs.Slips.{like_number}
use Rattle.findings.proofs.slips.like_number.Goals as goal

pub returns-then-is_digit : goal.returns-then-is_digit
unfolding like_number
returns-then-is_digit c = grind (arith, nat_tests, common_steps)

pub returns-then-leads_number : goal.returns-then-leads_number
unfolding like_number
returns-then-leads_number c = grind (arith, nat_tests, common_steps)

pub returns-else-leads_number : goal.returns-else-leads_number
unfolding like_number
returns-else-leads_number c = grind (arith, nat_tests, common_steps)
