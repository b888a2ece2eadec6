-- An arm for each case of `hash_then`.
use borrow.Author.Tests.{eq-eqb, ne_eqb}
use Rattle.steps.proofs.hash.hash_then.Goals as goal

pub returns-then-c-eq-OPEN_ROUND : goal.returns-then-c-eq-OPEN_ROUND
returns-then-c-eq-OPEN_ROUND c = rw c.in-Bracket.is (simp (eq-eqb _ _ c.if-c-eq-OPEN_ROUND.true))

pub returns-in-Decided : goal.returns-in-Decided
returns-in-Decided c = rw c.in-Decided.is

pub returns-else-c-eq-OPEN_ROUND : goal.returns-else-c-eq-OPEN_ROUND
returns-else-c-eq-OPEN_ROUND c = rw c.in-Bracket.is (simp (ne_eqb _ _ c.if-c-eq-OPEN_ROUND.false, c.enter_word.ensures))

pub returns-in-Undecided : goal.returns-in-Undecided
returns-in-Undecided c = rw c.in-Undecided.is (simp c.enter_word-in-Undecided.ensures)
