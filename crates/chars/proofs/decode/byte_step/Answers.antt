-- Each return is one arm of `step`, and the tests on the way to it choose that arm.
use borrow.Author.Rules.{rules}
use borrow.Author.Tests.{le-leb, lt-leb, eq-eqb, ne_eqb}
use mathlib.Core.Path.{◌∙◌}
use Rattle.chars.specs.Machine.{step}
use Rattle.chars.proofs.Table.{within_in, within_below, within_above}
use Rattle.chars.proofs.decode.byte_step.Goals as goal

pub first_byte-requires : goal.first_byte-requires
unfolding step
first_byte-requires c = search rules

pub returns-then-t-eq0 : goal.returns-then-t-eq0
unfolding step
returns-then-t-eq0 c = c.first_byte.ensures ∙ search eq-eqb

pub returns-then-b-t : goal.returns-then-b-t
unfolding step
returns-then-b-t c = search (within_below, ne_eqb)

pub returns-then-t-b : goal.returns-then-t-b
unfolding step
returns-then-t-b c = search (within_above, ne_eqb)

pub returns-then-t-gt-CODE_TOP : goal.returns-then-t-gt-CODE_TOP
unfolding step
returns-then-t-gt-CODE_TOP c = search (within_in, lt-leb, ne_eqb)

pub returns-then-t-eq1 : goal.returns-then-t-eq1
unfolding step
returns-then-t-eq1 c = search (within_in, le-leb, eq-eqb, ne_eqb)

pub returns : goal.returns
unfolding step
returns c = search (within_in, le-leb, ne_eqb)
