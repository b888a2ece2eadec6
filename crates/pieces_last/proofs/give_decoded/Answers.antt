-- Record, text and words are the definition's for a string with an escape that ends with the text (Ending: item-given).
use Rattle.std.proofs.Common.{Some}
use native.Mathlib.Omega.{arith}
use mathlib.Core.Path.{◌≡◌, refl, sym, ap, subst}
use mathlib.Core.Bool.{true}
use lib.Dec.{eqb}
use lib.ListN.{take}
use lib.Seq.{length-take-le}
use borrow.Author.Tests.{not-false}
use Rattle.laws.proofs.Choice.{by_bool}
use Rattle.items.specs.Meaning.{escaped}
use Rattle.pieces_spots.specs.declared.PieceSpot.{PieceSpot}
use Rattle.pieces_quick.specs.Gives.{decoded_means, Copying, Copied}
use Rattle.pieces_quick.proofs.Giving.{decoded_ends}
use Rattle.pieces_last.proofs.Lasts.{decoded_lasts}
use Rattle.pieces_last.proofs.Ending.{item_given_lem}
use Rattle.pieces_last.proofs.give_decoded.Goals as goal

pub slice_bounds-is_escaped-end : goal.slice_bounds-is_escaped-end
slice_bounds-is_escaped-end c =
    let len = ap (λ (x : PieceSpot). x.len) c.requires.1 in
    sym (length-take-le c.args.s.len c.args.buf.now (omega (arith, len, c.requires.0.closing.ready.small, c.requires.0.full)))

pub slice_bounds-decoded_record-end : goal.slice_bounds-decoded_record-end
slice_bounds-decoded_record-end c =
    let len = ap (λ (x : PieceSpot). x.len) c.requires.1 in
    sym (length-take-le c.args.s.len c.args.buf.now (omega (arith, len, c.requires.0.closing.ready.small, c.requires.0.full)))

pub decoded_record-r-requires : goal.decoded_record-r-requires
decoded_record-r-requires c =
    let h = c.requires.0 in
    let l = length-take-le c.args.w.len c.args.buf.now (omega (arith, h.closing.ready.small, h.full)) in
    let k = h.closing.ready.known.held h.item in
    subst (λ (x : PieceSpot). Copying x (decoded_means (take x.len c.args.buf.now)) (take x.len c.args.buf.now) c.args.text.now)
    (sym c.requires.1) (record {
      held = omega (arith, l, k.0);
      some = omega (arith, l, k.1);
      small = omega (arith, l, h.closing.ready.small);
      room = h.room;
      far = omega (arith, h.closing.ready.far);
      fine = omega arith;
    })

pub returns : goal.returns
returns c =
    let w = c.args.w in
    let h = c.requires.0 in
    let raw = take w.len c.args.buf.now in
    let string = subst (λ (x : PieceSpot). (x.stage ≡ 25) × (x.which ≡ 0) × (escaped (take x.len c.args.buf.now) ≡ true)) c.requires.1
    (c.is_escaped.ensures (not-false _ c.if-not-is_escaped.false-raw)) in
    let decoded = c.decoded_record-r in
    let copied = subst (λ (x : PieceSpot). Copied x (decoded_means (take x.len c.args.buf.now)) w.depth (take x.len c.args.buf.now)
    c.args.text.now decoded.new.text (Some decoded.result)) c.requires.1 decoded.ensures in
    item_given_lem w h.closing c.args.buf.now c.args.text.now h.full h.room (decoded_means raw)
    (decoded_lasts w.stage w.which w.detail w.start raw (decoded_means raw) string.0
    (decoded_ends w.stage w.which w.detail 0 w.start raw string.0 string.1 string.2))
    (h.closing.ready.known.held h.item).0 (by_bool (eqb w.skip 1) (λ e. rw e) (λ e. rw e)) w.depth refl _ _ copied
