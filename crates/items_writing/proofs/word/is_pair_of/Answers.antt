-- A word is one, a run if it is no number with the plus; all others are none (law `other_none`).
use Rattle.std.proofs.Common.{arith}
use Rattle.std.proofs.lemmas.Grind.{common_steps}
use Rattle.std.proofs.lemmas.Bool.Decides.{nat_tests}
use borrow.Enum.Refused.{opened}
use Rattle.items_writing.specs.Decide.{is_pair_of}
use Rattle.items_writing.proofs.WordTurns.{other_none}
use Rattle.items_writing.proofs.word.is_pair_of.Goals as goal

pub returns-in-Word : goal.returns-in-Word
unfolding is_pair_of
returns-in-Word c = rw c.in-Word.is (grind (arith, nat_tests, common_steps))

pub returns-then-not-is_empty : goal.returns-then-not-is_empty
unfolding is_pair_of
returns-then-not-is_empty c = rw c.in-Run.is (grind (arith, nat_tests, common_steps))

pub returns-else-not-is_empty : goal.returns-else-not-is_empty
unfolding is_pair_of
returns-else-not-is_empty c = rw c.in-Run.is (grind (arith, nat_tests, common_steps))

pub returns-in_default : goal.returns-in_default
returns-in_default c = let f = c.args in (other_none f.what (opened c.in_default.in_default-own.keys3) f.t.now).1
