-- Record, text, spot and buffer are the definition's for an item that ends before the byte (Giving: gives-item).
use Rattle.std.proofs.Common.{Option}
use Rattle.items.specs.declared.Record.{Record}
use native.Mathlib.Omega.{arith}
use mathlib.Core.Path.{refl, sym, ◌∙◌, subst}
use lib.ListN.{take}
use lib.Seq.{length-take-le}
use Rattle.items.specs.Whole.{in_report}
use Rattle.items.specs.Items.{range}
use Rattle.pieces_quick.specs.Gives.{Copied}
use Rattle.pieces_quick.proofs.Giving.{gives_item}
use Rattle.pieces_quick.proofs.finishing.given.Goals as goal

pub slice_bounds-copied-end-2 : goal.slice_bounds-copied-end-2
slice_bounds-copied-end-2 c =
    sym (length-take-le c.args.s.len c.args.buf.now (omega (arith, c.requires.0.small, c.requires.0.sound.full)))

pub copied-requires : goal.copied-requires
copied-requires c =
    let l = length-take-le c.args.s.len c.args.buf.now (omega (arith, c.requires.0.small, c.requires.0.sound.full)) in
    record {
      held = omega (arith, l, c.requires.1.held);
      some = omega (arith, l, c.requires.1.some);
      small = omega (arith, l, c.requires.0.small);
      room = c.requires.0.sound.room;
      far = omega (arith, c.requires.0.far);
      fine = c.requires.1.ended.fine;
    }

pub returns-in-Some : goal.returns-in-Some
returns-in-Some c =
    let next = c.after-next in
    let w = c.args.w in
    let s = c.args.s in
    let kept = sym c.skips.ensures ∙ c.if-skips.false in
    let k = subst (λ (q : Option Record). Copied s c.args.m w.depth (take s.len c.args.buf.now) c.args.text.now
    c.copied.new.text q) c.in-Some.is c.copied.ensures (in_report w.mode) (range w.from w.to) in
    gives_item w s c.args.buf.now c.args.text.now c.requires.0 c.args.b c.args.f c.args.m c.requires.1 kept
    (range w.from w.to) _ _ k.0 k.1 next.result _ _ next.ensures.0
    (next.ensures.1 w c.requires.0.left c.args.m.kind _ c.requires.0.ready (omega arith))

pub returns-in-None : goal.returns-in-None
returns-in-None c =
    let s = c.args.s in (
      refl,
      subst (λ (q : Option Record). Copied s c.args.m c.args.w.depth (take s.len c.args.buf.now) c.args.text.now
          c.copied.new.text q) c.in-None.is c.copied.ensures,
    )
