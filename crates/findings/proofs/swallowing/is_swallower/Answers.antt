-- The tests are the definition's.
use Rattle.std.proofs.Common.{arith}
use Rattle.std.proofs.lemmas.Grind.{common_steps}
use Rattle.std.proofs.lemmas.Bool.Decides.{nat_tests}
use Rattle.findings.specs.Slips.{is_swallower}
use Rattle.findings.proofs.swallowing.is_swallower.Goals as goal

pub returns-then-byte_at-eq34 : goal.returns-then-byte_at-eq34
unfolding is_swallower
returns-then-byte_at-eq34 c = grind (arith, nat_tests, common_steps)

pub returns-else-byte_at-eq34 : goal.returns-else-byte_at-eq34
unfolding is_swallower
returns-else-byte_at-eq34 c = grind (arith, nat_tests, common_steps)
