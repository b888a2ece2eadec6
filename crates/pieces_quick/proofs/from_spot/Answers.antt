-- At the end of the piece nothing is left to feed. Before it the item is given, or the reader stands as before (Answering).
use native.Mathlib.Omega.{arith}
use mathlib.Core.Path.{refl, subst}
use lib.ListN.{get_or}
use Rattle.std.proofs.Common.{Option}
use Rattle.pieces_quick.specs.declared.QuickItem.{QuickItem}
use Rattle.pieces_quick.specs.Gives.{Finished}
use Rattle.pieces_quick.proofs.Answering.{more_feeds, before_byte, item_feeds}
use Rattle.pieces_quick.proofs.from_spot.Goals as goal

pub returns-then-piece-i : goal.returns-then-piece-i
returns-then-piece-i c =
    more_feeds c.args.w c.requires.1.left c.requires.1.ready c.args.s c.args.buf.now c.args.text.now c.args.piece.now c.requires.0 c.requires.1.sound (omega arith)

pub give_item-requires : goal.give_item-requires
give_item-requires c =
    before_byte c.args.w c.requires.1.left c.requires.1.ready c.args.s c.args.buf.now c.args.text.now c.args.piece.now c.requires.0
    c.requires.1.sound (omega arith) (omega arith)

pub returns-in-Some : goal.returns-in-Some
returns-in-Some c =
    let s = c.args.s in
    item_feeds c.args.w c.requires.1.left c.requires.1.ready s c.args.buf.now c.args.text.now c.args.piece.now c.requires.0 c.requires.1.sound
    (omega (arith, c.if-piece-i.false)) _ _ _
    (subst (λ (q : Option QuickItem). Finished c.args.w s (get_or c.args.piece.now s.i 0) c.args.buf.now c.give_item.new.buf
    c.args.text.now c.give_item.new.text q) c.in-Some.is c.give_item.ensures)

pub returns-in-None : goal.returns-in-None
returns-in-None c =
    let s = c.args.s in
    let same = subst (λ (q : Option QuickItem). Finished c.args.w s (get_or c.args.piece.now s.i 0) c.args.buf.now
    c.give_item.new.buf c.args.text.now
    c.give_item.new.text q) c.in-None.is
    c.give_item.ensures in
    (refl, same.0, same.1)
