-- The tests of the definition, in its order.
use borrow.Author.Tests.{lt-ltb, le-ltb, eq-eqb, ne_eqb}
use Rattle.items_files.specs.Layout.{after}
use Rattle.items_files.proofs.layout.after_word.Goals as goal

pub returns-then-b-eq2 : goal.returns-then-b-eq2
unfolding after
returns-then-b-eq2 c = search (lt-ltb, le-ltb, eq-eqb, ne_eqb)

pub returns-then-b-lt9 : goal.returns-then-b-lt9
unfolding after
returns-then-b-lt9 c = search (lt-ltb, le-ltb, eq-eqb, ne_eqb)

pub returns : goal.returns
unfolding after
returns c = search (lt-ltb, le-ltb, eq-eqb, ne_eqb)
