-- By the tests.
use Rattle.std.proofs.Common.{arith}
use Rattle.std.proofs.lemmas.Grind.{common_steps}
use Rattle.std.proofs.lemmas.Bool.Decides.{nat_tests}
use Rattle.items_writing.specs.Records.{has_text}
use Rattle.items_writing.proofs.records.has_text.Goals as goal

pub returns-then-k-eq-KEYWORD : goal.returns-then-k-eq-KEYWORD
unfolding has_text
returns-then-k-eq-KEYWORD c = grind (arith, nat_tests, common_steps)

pub returns-else-k-eq-KEYWORD : goal.returns-else-k-eq-KEYWORD
unfolding has_text
returns-else-k-eq-KEYWORD c = grind (arith, nat_tests, common_steps)
