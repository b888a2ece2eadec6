-- The ranges and characters are the definition's.
use Rattle.std.proofs.Common.{arith}
use Rattle.std.proofs.lemmas.Grind.{common_steps}
use Rattle.std.proofs.lemmas.Bool.Decides.{nat_tests}
use Rattle.laws.specs.Quoted.{within}
use Rattle.findings.specs.Slips.{is_quote}
use Rattle.findings.proofs.slips.is_quote.Goals as goal

pub returns-in-8216-to-8223 : goal.returns-in-8216-to-8223
unfolding is_quote within
returns-in-8216-to-8223 c = grind (arith, nat_tests, common_steps)

pub returns-in-8216-to-8223-2 : goal.returns-in-8216-to-8223-2
unfolding is_quote within
returns-in-8216-to-8223-2 c = grind (arith, nat_tests, common_steps)

pub returns-in_default : goal.returns-in_default
unfolding is_quote within
returns-in_default c = grind (arith, nat_tests, common_steps)

pub returns-in_default-2 : goal.returns-in_default-2
unfolding is_quote within
returns-in_default-2 c = grind (arith, nat_tests, common_steps)
