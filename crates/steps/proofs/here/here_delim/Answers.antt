-- The arms are the rows of `in_delim`; else blanks decide.
use mathlib.Core.Path.{sym, ◌∙◌}
use borrow.Author.Tests.{ne_eqb}
use Rattle.items.specs.Classes.{in_delim}
use Rattle.steps.proofs.here.here_delim.Goals as goal

pub returns-then-is_blank : goal.returns-then-is_blank
unfolding in_delim
returns-then-is_blank c = simp (ne_eqb _ _ c.in_default.in_default-own.rest.0.1, ne_eqb _ _ c.in_default.in_default-own.rest.1, sym c.is_blank.ensures ∙ c.if-is_blank.true)

pub returns-in-10 : goal.returns-in-10
unfolding in_delim
returns-in-10 c = rw c.in-10.is

pub returns-in-13 : goal.returns-in-13
unfolding in_delim
returns-in-13 c = rw c.in-13.is

pub returns-else-is_blank : goal.returns-else-is_blank
unfolding in_delim
returns-else-is_blank c = simp (ne_eqb _ _ c.in_default.in_default-own.rest.0.1, ne_eqb _ _ c.in_default.in_default-own.rest.1, sym c.is_blank.ensures ∙ c.if-is_blank.false)
