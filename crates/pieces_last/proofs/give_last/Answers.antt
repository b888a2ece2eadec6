-- Record, text and words are the definition's for an item that ends with the text (Ending: item-given).
use Rattle.std.proofs.Common.{Option, Some}
use Rattle.items.specs.declared.Record.{Record}
use native.Mathlib.Omega.{arith}
use mathlib.Core.Path.{sym, ap, ◌∙◌, subst}
use lib.ListN.{take}
use lib.Seq.{length-take-le}
use Rattle.pieces_spots.specs.declared.PieceSpot.{PieceSpot}
use Rattle.pieces_quick.specs.Gives.{Copying, Copied}
use Rattle.pieces_last.proofs.Ending.{item_given_lem}
use Rattle.pieces_last.proofs.give_last.Goals as goal

pub slice_bounds-copied-end : goal.slice_bounds-copied-end
slice_bounds-copied-end c =
    let len = ap (λ (x : PieceSpot). x.len) c.requires.1 in
    sym (length-take-le c.args.s.len c.args.buf.now (omega (arith, len, c.requires.0.closing.ready.small, c.requires.0.full)))

pub copied-requires : goal.copied-requires
copied-requires c =
    let w = c.args.w in
    let h = c.requires.0 in
    let l = length-take-le w.len c.args.buf.now (omega (arith, h.closing.ready.small, h.full)) in
    let k = h.closing.ready.known.held h.item in
    subst (λ (x : PieceSpot). Copying x c.args.m (take x.len c.args.buf.now) c.args.text.now) (sym c.requires.1) (record {
      held = omega (arith, l, k.0);
      some = omega (arith, l, k.1);
      small = omega (arith, l, h.closing.ready.small);
      room = h.room;
      far = omega (arith, h.closing.ready.far);
      fine = c.requires.2.fine;
    })

pub returns-in-Some : goal.returns-in-Some
returns-in-Some c =
    let w = c.args.w in
    let h = c.requires.0 in
    let kept = sym c.skips.ensures ∙ c.if-skips.false in
    let copied = c.copied in
    let gift = subst (λ (q : Option Record). Copied c.args.s c.args.m w.depth (take c.args.s.len c.args.buf.now) c.args.text.now
    copied.new.text q) c.in-Some.is copied.ensures in
    let k = subst (λ (x : PieceSpot). Copied x c.args.m w.depth (take x.len c.args.buf.now) c.args.text.now copied.new.text
    (Some c.in-Some.r)) c.requires.1 gift in
    item_given_lem w h.closing c.args.buf.now c.args.text.now h.full h.room c.args.m c.requires.2 (h.closing.ready.known.held h.item).0 kept _ (omega arith) _ _ k

pub returns-in-None : goal.returns-in-None
returns-in-None c =
    let copied = c.copied in
    subst (λ (q : Option Record). Copied c.args.s c.args.m c.args.w.depth (take c.args.s.len c.args.buf.now) c.args.text.now
    copied.new.text q) c.in-None.is copied.ensures
