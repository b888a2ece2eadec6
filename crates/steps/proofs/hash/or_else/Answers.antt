-- An arm for each case of `or_else`.
use Rattle.chars.specs.Utf8.{first}
use Rattle.steps.proofs.hash.or_else.Goals as goal

pub returns-in-Decided : goal.returns-in-Decided
unfolding first
returns-in-Decided c = rw c.in-Decided.is

pub returns-in-Bracket : goal.returns-in-Bracket
unfolding first
returns-in-Bracket c = rw c.in-Bracket.is

pub returns-in-Undecided : goal.returns-in-Undecided
unfolding first
returns-in-Undecided c = rw c.in-Undecided.is
