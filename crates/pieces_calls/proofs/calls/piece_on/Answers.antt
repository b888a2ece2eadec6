-- Whether the end was declared.
use mathlib.Core.Path.{refl}
use Rattle.pieces_calls.proofs.Replies.{reply_yes, reply_no}
use Rattle.pieces_calls.proofs.calls.piece_on.Goals as goal

pub returns-then-m : goal.returns-then-m
returns-then-m c =
    reply_yes c.args.text.now c.args.m.ended _ _ c.if-m.true (rw c.refuse.ensures (refl, refl))

pub feed-requires : goal.feed-requires
feed-requires c = c.requires

pub returns : goal.returns
returns c =
    reply_no c.args.text.now c.args.m.ended _ _
    c.if-m.false c.feed.ensures
