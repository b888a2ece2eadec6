-- A short text that was passed to its end is whole (law `all_passed`); of any other `first_bad` tells.
use Rattle.std.proofs.Common.{arith}
use Rattle.std.proofs.lemmas.Grind.{common_steps}
use Rattle.std.proofs.lemmas.Bool.Decides.{nat_tests}
use Rattle.items_writing.proofs.WholeParts.{all_passed}
use Rattle.items_writing.proofs.whole.is_good.Goals as goal

pub returns-then-t-good_end : goal.returns-then-t-good_end
returns-then-t-good_end c = grind (arith, nat_tests, common_steps, all_passed)

pub returns-else-t-good_end : goal.returns-else-t-good_end
returns-else-t-good_end c = grind (arith, nat_tests, common_steps, all_passed)
