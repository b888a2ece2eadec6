-- Past the end there is no byte, and a byte inside a character is one from 0x80 to 0xBF.
use Rattle.std.proofs.Common.{arith}
use Rattle.std.proofs.lemmas.Grind.{common_steps}
use Rattle.std.proofs.lemmas.Bool.Decides.{nat_tests}
use Prim.Native.Nat.{ℕ}
use lib.ListN.{get_or-eq_default}
use Rattle.laws.specs.Quoted.{within}
use Rattle.items_writing.proofs.whole.is_border.Goals as goal

pub returns-then-s-i-lt-TAIL_LOW : goal.returns-then-s-i-lt-TAIL_LOW
unfolding within
returns-then-s-i-lt-TAIL_LOW c = grind (arith, nat_tests, common_steps, get_or-eq_default {A = ℕ})

pub returns-else-s-i-lt-TAIL_LOW : goal.returns-else-s-i-lt-TAIL_LOW
unfolding within
returns-else-s-i-lt-TAIL_LOW c = grind (arith, nat_tests, common_steps, get_or-eq_default {A = ℕ})
