-- A buffer of another length is refused; of a whole one it is the call on it.
use mathlib.Core.Path.{refl}
use lib.ListN.{length}
use lib.Dec.{eqb}
use borrow.Author.Tests.{eq-eqb, ne_eqb}
use Rattle.pieces.specs.Expected.{longest}
use Rattle.pieces_calls.proofs.Replies.{reply_yes, reply_no}
use Rattle.pieces_calls.proofs.calls.end_call.Goals as goal

pub returns-then-buf-ne-LONGEST : goal.returns-then-buf-ne-LONGEST
returns-then-buf-ne-LONGEST c =
    reply_no c.args.text.now
    (eqb (length c.args.buf.now) longest) _ _ (ne_eqb _ _ c.if-buf-ne-LONGEST.true) (rw c.refuse.ensures (refl, refl))

pub returns : goal.returns
returns c =
    reply_yes c.args.text.now (eqb (length c.args.buf.now) longest) _ _
    (eq-eqb _ _ c.if-buf-ne-LONGEST.false) c.read_end.ensures
