-- The tests are the definition's.
use Rattle.std.proofs.Common.{arith}
use Rattle.std.proofs.lemmas.Grind.{common_steps}
use Rattle.std.proofs.lemmas.Bool.Decides.{nat_tests}
use Rattle.findings.specs.Slips.{is_name}
use Rattle.findings.proofs.slips.is_name.Goals as goal

pub returns-then-byte_at-ne124 : goal.returns-then-byte_at-ne124
unfolding is_name
returns-then-byte_at-ne124 c = grind (arith, nat_tests, common_steps)

pub returns-else-byte_at-ne124 : goal.returns-else-byte_at-ne124
unfolding is_name
returns-else-byte_at-ne124 c = grind (arith, nat_tests, common_steps)
