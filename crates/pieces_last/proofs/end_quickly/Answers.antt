-- Where no item is held all were given; what the stage and the bytes tell is how the item ends (Ending).
use native.Mathlib.Omega.{arith}
use Prim.Native.Nat.{◌+◌, ◌^◌, ◌<◌}
use mathlib.Core.Path.{◌≡◌, sym, ap, subst}
use lib.ListN.{length, take}
use lib.Seq.{length-take-le}
use Rattle.items_telling.specs.declared.Quick.{Quick}
use Rattle.pieces_spots.specs.declared.PieceSpot.{PieceSpot}
use Rattle.pieces_last.specs.Lasts.{Lasts, TellsLast}
use Rattle.pieces_last.proofs.Ending.{all_given}
use Rattle.pieces_last.proofs.end_quickly.Goals as goal

pub returns-then-w-le-IDLE : goal.returns-then-w-le-IDLE
returns-then-w-le-IDLE c =
    all_given c.args.w c.requires.0 c.args.buf.now c.args.text.now c.requires.1 c.requires.2 (omega (arith, c.if-w-le-IDLE.true))

pub slice_bounds-tell_last-end : goal.slice_bounds-tell_last-end
slice_bounds-tell_last-end c =
    let s = c.spot-s in
    let len = ap (λ (x : PieceSpot). x.len) s.ensures in
    sym (length-take-le s.result.len c.args.buf.now (omega (arith, len, c.requires.0.ready.small, c.requires.1)))

pub tell_last-told-requires : goal.tell_last-told-requires
tell_last-told-requires c =
    let w = c.args.w in
    let raw = take w.len c.args.buf.now in
    let l = length-take-le w.len c.args.buf.now (omega (arith, c.requires.0.ready.small, c.requires.1)) in
    let k = c.requires.0.ready.known.held (omega (arith, c.if-w-le-IDLE.false)) in
    subst (λ (x : PieceSpot). (0 < length (take x.len c.args.buf.now)) × (x.at ≡ x.start + length (take x.len c.args.buf.now)) × (x.which < 2 ^ 32) × (x.detail < 2 ^ 32))
    (sym c.spot-s.ensures) (omega (arith, l, k.1), omega (arith, l, k.0), c.requires.0.ready.known.narrow, c.requires.0.ready.known.slim)

pub give_last-requires : goal.give_last-requires
give_last-requires c =
    let s = c.spot-s in
    let told = c.tell_last-told in
    let buf = c.args.buf.now in
    let so = subst (λ (q : Quick). TellsLast s.result.stage s.result.which s.result.detail s.result.start (take s.result.len buf) q)
    c.in-Item.is told.ensures in (
      record { closing = c.requires.0; item = omega (arith, c.if-w-le-IDLE.false); full = c.requires.1; room = c.requires.2 },
      s.ensures,
      subst (λ (x : PieceSpot). Lasts x.stage x.which x.detail x.start (take x.len buf) c.in-Item.m) s.ensures so,
    )
