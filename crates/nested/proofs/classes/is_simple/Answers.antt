-- Names, numbers and strings are simple if they have no detail (law `frequent_said`); all else is left to the rare kinds.
use Rattle.nested.proofs.Table.{none_said, frequent_said, rare_said}
use Rattle.nested.proofs.classes.is_simple.Goals as goal

pub returns-then-k-le-UNQUOTE_SPLICE_SYNTAX : goal.returns-then-k-le-UNQUOTE_SPLICE_SYNTAX
returns-then-k-le-UNQUOTE_SPLICE_SYNTAX c = none_said _

pub returns-then-k-le-STRING_LITERAL : goal.returns-then-k-le-STRING_LITERAL
returns-then-k-le-STRING_LITERAL c = frequent_said _ _ c.if-k-gt-BOOLEAN_LITERAL.true c.if-k-le-STRING_LITERAL.true

pub returns : goal.returns
returns c = rw c.is_some.ensures (rare_said _ _ _ c.rare_kind.ensures)
