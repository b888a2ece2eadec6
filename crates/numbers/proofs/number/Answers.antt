-- A text too long goes first; then the parts that are told of a brief number; else it is read by the grammar.
use Rattle.numbers.proofs.Call.{too_long}
use Rattle.numbers.proofs.BriefAnswers.{brief_answer}
use mathlib.Core.Path.{sym}
use Rattle.numbers.proofs.number.Goals as goal

pub returns-then-t-gt-LIMIT : goal.returns-then-t-gt-LIMIT
returns-then-t-gt-LIMIT c = sym (too_long _ c.if-t-gt-LIMIT.true)

pub returns-in-Some : goal.returns-in-Some
returns-in-Some c =
    brief_answer _ c.if-t-gt-LIMIT.false _ (rw c.in-Some.is at c.brief_parts.ensures)
