-- The four places in their order, and the two borders: law `inside_whole`.
use Rattle.std.proofs.Common.{arith}
use Rattle.std.proofs.lemmas.Grind.{common_steps}
use Rattle.std.proofs.lemmas.Bool.Decides.{nat_tests}
use Rattle.items_writing.proofs.WholeParts.{inside_whole}
use Rattle.items_writing.proofs.whole.is_inside.Goals as goal

pub returns-then-is_border : goal.returns-then-is_border
returns-then-is_border c = grind (arith, nat_tests, common_steps, inside_whole)
