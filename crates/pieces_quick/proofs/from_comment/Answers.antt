-- The comment is given, or the reader stands as before (Answering).
use native.Mathlib.Omega.{arith}
use mathlib.Core.Path.{refl, subst}
use lib.ListN.{get_or}
use Rattle.std.proofs.Common.{Option}
use Rattle.pieces_quick.specs.declared.QuickItem.{QuickItem}
use Rattle.pieces_quick.specs.Gives.{Finished}
use Rattle.pieces_quick.proofs.Answering.{before_byte, item_feeds}
use Rattle.pieces_quick.proofs.from_comment.Goals as goal

pub give_comment-requires : goal.give_comment-requires
give_comment-requires c = (
  before_byte c.args.w c.requires.1.left c.requires.1.ready c.args.s c.args.buf.now c.args.text.now c.args.piece.now c.requires.0 c.requires.1.sound
      c.requires.3.inside (omega (arith, c.requires.3.inside)),
  c.requires.2,
  c.requires.3.which,
  c.requires.3.detail,
)

pub returns-in-Some : goal.returns-in-Some
returns-in-Some c =
    item_feeds c.args.w c.requires.1.left c.requires.1.ready c.args.s c.args.buf.now c.args.text.now c.args.piece.now c.requires.0 c.requires.1.sound
    c.requires.3.inside _ _ _
    (subst (λ (q : Option QuickItem). Finished c.args.w c.args.s (get_or c.args.piece.now c.args.s.i 0) c.args.buf.now
    c.give_comment.new.buf c.args.text.now c.args.text.now q) c.in-Some.is
    c.give_comment.ensures)

pub returns-in-None : goal.returns-in-None
returns-in-None c =
    let same = subst (λ (q : Option QuickItem). Finished c.args.w c.args.s
    (get_or c.args.piece.now c.args.s.i 0)
    c.args.buf.now c.give_comment.new.buf
    c.args.text.now c.args.text.now q) c.in-None.is
    c.give_comment.ensures in
    (refl, same.0, refl)
