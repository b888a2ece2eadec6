-- `lower_case` asks the definition's two tests, each for itself.
use borrow.Author.Tests.{le-leb, lt-leb}
use Rattle.spellings.proofs.names.lower_case.Goals as goal

pub returns-then-b-lt65 : goal.returns-then-b-lt65
returns-then-b-lt65 c = simp (lt-leb _ _ c.if-b-lt65.true)

pub returns-then-b-gt90 : goal.returns-then-b-gt90
returns-then-b-gt90 c = simp (le-leb _ _ c.if-b-lt65.false, lt-leb _ _ c.if-b-gt90.true)

pub returns : goal.returns
returns c = simp (le-leb _ _ c.if-b-lt65.false, le-leb _ _ c.if-b-gt90.false)
