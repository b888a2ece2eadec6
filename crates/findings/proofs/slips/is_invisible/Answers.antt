-- The ranges and characters are the definition's.
use Rattle.std.proofs.Common.{arith}
use Rattle.std.proofs.lemmas.Grind.{common_steps}
use Rattle.std.proofs.lemmas.Bool.Decides.{nat_tests}
use Rattle.laws.specs.Quoted.{within}
use Rattle.findings.specs.Slips.{is_invisible}
use Rattle.findings.proofs.slips.is_invisible.Goals as goal

pub returns-in-0-to-31 : goal.returns-in-0-to-31
unfolding is_invisible within
returns-in-0-to-31 c = grind (arith, nat_tests, common_steps)

pub returns-in-0-to-31-2 : goal.returns-in-0-to-31-2
unfolding is_invisible within
returns-in-0-to-31-2 c = grind (arith, nat_tests, common_steps)

pub returns-in-0-to-31-3 : goal.returns-in-0-to-31-3
unfolding is_invisible within
returns-in-0-to-31-3 c = grind (arith, nat_tests, common_steps)

pub returns-in-0-to-31-4 : goal.returns-in-0-to-31-4
unfolding is_invisible within
returns-in-0-to-31-4 c = grind (arith, nat_tests, common_steps)

pub returns-in-0-to-31-5 : goal.returns-in-0-to-31-5
unfolding is_invisible within
returns-in-0-to-31-5 c = grind (arith, nat_tests, common_steps)

pub returns-in-0-to-31-6 : goal.returns-in-0-to-31-6
unfolding is_invisible within
returns-in-0-to-31-6 c = grind (arith, nat_tests, common_steps)

pub returns-in_default : goal.returns-in_default
unfolding is_invisible within
returns-in_default c = grind (arith, nat_tests, common_steps)

pub returns-in_default-2 : goal.returns-in_default-2
unfolding is_invisible within
returns-in_default-2 c = grind (arith, nat_tests, common_steps)

pub returns-in_default-3 : goal.returns-in_default-3
unfolding is_invisible within
returns-in_default-3 c = grind (arith, nat_tests, common_steps)

pub returns-in_default-4 : goal.returns-in_default-4
unfolding is_invisible within
returns-in_default-4 c = grind (arith, nat_tests, common_steps)

pub returns-in_default-5 : goal.returns-in_default-5
unfolding is_invisible within
returns-in_default-5 c = grind (arith, nat_tests, common_steps)
