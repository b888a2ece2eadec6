-- Each test leaves the kinds of one row of the table, and the law of that row in `Table` says what it gives. Where the answer is none, nothing is said.
use Rattle.nested.proofs.Table.{plain_number, plain_name, no_simple_lem}
use Rattle.nested.proofs.classes.simple_kind.Goals as goal

pub returns-then-k-le-UNQUOTE_SPLICE_SYNTAX : goal.returns-then-k-le-UNQUOTE_SPLICE_SYNTAX
returns-then-k-le-UNQUOTE_SPLICE_SYNTAX c = no_simple_lem _ _

pub returns-then-k-eq-NUMBER : goal.returns-then-k-eq-NUMBER
returns-then-k-eq-NUMBER c = plain_number _ _ _ c.if-k-eq-NUMBER.true c.plain_kind.ensures

pub returns-then-k-le-KEYWORD : goal.returns-then-k-le-KEYWORD
returns-then-k-le-KEYWORD c = plain_name _ _ _ c.if-k-gt-BOOLEAN_LITERAL.true c.if-k-le-KEYWORD.true c.plain_kind-then-k-le-KEYWORD.ensures
