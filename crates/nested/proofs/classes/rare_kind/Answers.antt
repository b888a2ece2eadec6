-- Each test leaves the kinds of one row of the table, and the law of that row in `Table` says what it gives. Where the answer is none, nothing is said.
use native.Mathlib.Omega.{arith}
use mathlib.Core.Path.{sym, ◌∙◌}
use Rattle.nested.proofs.Table.{plain_word, plain_string, boolean_said, character_said, no_simple_lem}
use Rattle.nested.proofs.classes.rare_kind.Goals as goal

pub returns-then-k-eq-STRING_LITERAL : goal.returns-then-k-eq-STRING_LITERAL
returns-then-k-eq-STRING_LITERAL c = plain_string _ _ _ c.if-k-eq-STRING_LITERAL.true c.plain_kind.ensures

pub returns-then-d-le-TRUE : goal.returns-then-d-le-TRUE
returns-then-d-le-TRUE c = boolean_said _ _ c.if-k-eq-BOOLEAN_LITERAL.true c.if-d-le-TRUE.true

pub returns-then-k-eq-BOOLEAN_LITERAL : goal.returns-then-k-eq-BOOLEAN_LITERAL
returns-then-k-eq-BOOLEAN_LITERAL c = no_simple_lem _ _

pub returns-then-k-gt-CHARACTER_LITERAL : goal.returns-then-k-gt-CHARACTER_LITERAL
returns-then-k-gt-CHARACTER_LITERAL c = no_simple_lem _ _

pub returns-then-is_scalar : goal.returns-then-is_scalar
returns-then-is_scalar c = character_said _ _ c.if-k-eq-CHARACTER_LITERAL.true (sym c.is_scalar.ensures ∙ c.if-is_scalar.true)

pub returns-then-k-eq-CHARACTER_LITERAL : goal.returns-then-k-eq-CHARACTER_LITERAL
returns-then-k-eq-CHARACTER_LITERAL c = no_simple_lem _ _

pub returns : goal.returns
returns c = plain_word _ _ _ (omega arith) (omega arith) c.plain_kind-2.ensures
