-- Record, text, spot and buffer are the definition's for a string with an escape that ends before the byte (Giving: gives-item).
use native.Mathlib.Omega.{arith}
use mathlib.Core.Path.{refl, sym}
use lib.Dec.{eqb}
use lib.ListN.{take}
use lib.Seq.{length-take-le}
use borrow.Author.Tests.{not-false}
use Rattle.laws.proofs.Choice.{by_bool}
use Rattle.items.specs.Kinds as kind
use Rattle.items.specs.Whole.{in_report}
use Rattle.items.specs.Items.{range}
use Rattle.pieces_quick.specs.Gives.{decoded_means}
use Rattle.pieces_quick.proofs.Giving.{decoded_ends, gives_item}
use Rattle.pieces_quick.proofs.finishing.finish_decoded.Goals as goal

pub slice_bounds-is_escaped-end-2 : goal.slice_bounds-is_escaped-end-2
slice_bounds-is_escaped-end-2 c =
    sym (length-take-le c.args.s.len c.args.buf.now (omega (arith, c.requires.small, c.requires.sound.full)))

pub slice_bounds-decoded_record-end-2 : goal.slice_bounds-decoded_record-end-2
slice_bounds-decoded_record-end-2 c =
    sym (length-take-le c.args.s.len c.args.buf.now (omega (arith, c.requires.small, c.requires.sound.full)))

pub decoded_record-r-requires : goal.decoded_record-r-requires
decoded_record-r-requires c =
    let string = c.is_escaped.ensures (not-false _ c.if-not-is_escaped.false-raw) in
    let k = c.requires.held (omega (arith, string.0)) in
    let l = length-take-le c.args.s.len c.args.buf.now (omega (arith, c.requires.small, c.requires.sound.full)) in
    record {
      held = omega (arith, l, k.0);
      some = omega (arith, l, k.1);
      small = omega (arith, l, c.requires.small);
      room = c.requires.sound.room;
      far = omega (arith, c.requires.far);
      fine = omega arith;
    }

pub returns : goal.returns
returns c =
    let next = c.after-next in
    let w = c.args.w in
    let s = c.args.s in
    let raw = take s.len c.args.buf.now in
    let string = c.is_escaped.ensures (not-false _ c.if-not-is_escaped.false-raw) in
    let k = c.requires.held (omega (arith, string.0)) in
    let gave = c.decoded_record-r.ensures (in_report w.mode) (range w.from w.to) in
    gives_item w s c.args.buf.now c.args.text.now c.requires c.args.b c.first-f.result (decoded_means raw)
    (record {
      held = k.0;
      some = k.1;
      ended = decoded_ends s.stage s.which s.detail c.args.b s.start raw string.0 string.1 string.2;
      firsts = c.first-f.ensures;
      told = omega (arith, c.if-f-lt-IDLE.false);
    })
    (by_bool (eqb w.skip 1) (λ e. rw e) (λ e. rw e))
    (range w.from w.to) _ _ gave.0 gave.1 next.result _ _ next.ensures.0
    (next.ensures.1 w c.requires.left kind.StringLiteral _ c.requires.ready refl)
