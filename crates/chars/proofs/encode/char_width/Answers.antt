-- The tests are those of `width`, in its order.
use borrow.Author.Tests.{lt-ltb, le-ltb}
use Rattle.chars.specs.Encode.{width}
use Rattle.chars.proofs.encode.char_width.Goals as goal

pub returns-then-c-lt-TWO_FROM : goal.returns-then-c-lt-TWO_FROM
unfolding width
returns-then-c-lt-TWO_FROM c = search (lt-ltb, le-ltb)

pub returns-then-c-lt-THREE_FROM : goal.returns-then-c-lt-THREE_FROM
unfolding width
returns-then-c-lt-THREE_FROM c = search (lt-ltb, le-ltb)

pub returns-then-c-lt-FOUR_FROM : goal.returns-then-c-lt-FOUR_FROM
unfolding width
returns-then-c-lt-FOUR_FROM c = search (lt-ltb, le-ltb)

pub returns : goal.returns
unfolding width
returns c = search (lt-ltb, le-ltb)
