-- By the cases of `end_of`.
use mathlib.Core.Path.{refl}
use borrow.Author.Tests.{lt-ltb, le-ltb, eq-eqb, ne_eqb}
use lib.ListN.{length}
use Rattle.lines.specs.Pieces.{end_of}
use Rattle.lines.proofs.Feeding.{end_short, end_served}
use Rattle.lines_calls.proofs.pieces.end.Goals as goal

pub returns-then-st : goal.returns-then-st
unfolding end_of
returns-then-st c = search (lt-ltb, le-ltb, eq-eqb, ne_eqb)

pub returns-then-st-eq-TOO_LONG : goal.returns-then-st-eq-TOO_LONG
unfolding end_of
returns-then-st-eq-TOO_LONG c = search (lt-ltb, le-ltb, eq-eqb, ne_eqb)

pub returns-then-st-eq-NOT_UTF8 : goal.returns-then-st-eq-NOT_UTF8
unfolding end_of
returns-then-st-eq-NOT_UTF8 c = search (lt-ltb, le-ltb, eq-eqb, ne_eqb)

pub returns-then-begun-ne0 : goal.returns-then-begun-ne0
unfolding end_of
returns-then-begun-ne0 c = search (lt-ltb, le-ltb, eq-eqb, ne_eqb)

pub returns-then-index-n : goal.returns-then-index-n
returns-then-index-n c =
    let t = c.args.st in end_short t
    (length c.args.index.now) c.if-st.false
    c.if-st-eq-TOO_LONG.false c.if-st-eq-NOT_UTF8.false c.if-begun-ne0.false refl c.if-index-n.true

pub returns : goal.returns
returns c =
    let t = c.args.st in end_served t
    (length c.args.index.now) c.if-st.false
    c.if-st-eq-TOO_LONG.false c.if-st-eq-NOT_UTF8.false c.if-begun-ne0.false refl c.if-index-n.false
