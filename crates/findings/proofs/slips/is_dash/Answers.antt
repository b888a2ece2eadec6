-- The ranges and characters are the definition's.
use Rattle.std.proofs.Common.{arith}
use Rattle.std.proofs.lemmas.Grind.{common_steps}
use Rattle.std.proofs.lemmas.Bool.Decides.{nat_tests}
use Rattle.laws.specs.Quoted.{within}
use Rattle.findings.specs.Slips.{is_dash}
use Rattle.findings.proofs.slips.is_dash.Goals as goal

pub returns-in-8208-to-8213 : goal.returns-in-8208-to-8213
unfolding is_dash within
returns-in-8208-to-8213 c = grind (arith, nat_tests, common_steps)

pub returns-in-8208-to-8213-2 : goal.returns-in-8208-to-8213-2
unfolding is_dash within
returns-in-8208-to-8213-2 c = grind (arith, nat_tests, common_steps)

pub returns-in_default : goal.returns-in_default
unfolding is_dash within
returns-in_default c = grind (arith, nat_tests, common_steps)

pub returns-in_default-2 : goal.returns-in_default-2
unfolding is_dash within
returns-in_default-2 c = grind (arith, nat_tests, common_steps)
