-- What the stage and the bytes tell is how the item ends (TellsAt). Where they tell nothing both memories are as they were.
use native.Mathlib.Omega.{arith}
use mathlib.Core.Path.{sym, subst}
use lib.ListN.{take}
use lib.Seq.{length-take-le}
use Rattle.items_telling.specs.declared.Quick.{Quick}
use Rattle.pieces_spots.specs.Spots.{TellsAt}
use Rattle.pieces_quick.proofs.finishing.finish.Goals as goal

pub slice_bounds-tell-end-2 : goal.slice_bounds-tell-end-2
slice_bounds-tell-end-2 c =
    sym (length-take-le c.args.s.len c.args.buf.now (omega (arith, c.requires.small, c.requires.sound.full)))

pub tell-told-requires : goal.tell-told-requires
tell-told-requires c =
    let k = c.requires.held (omega (arith, c.if-s-le-IDLE.false)) in
    let l = length-take-le c.args.s.len c.args.buf.now (omega (arith, c.requires.small, c.requires.sound.full)) in
    (omega (arith, l, k.1), omega (arith, l, k.0), c.requires.which, c.requires.detail)

pub given-requires : goal.given-requires
given-requires c =
    let s = c.args.s in
    let k = c.requires.held (omega (arith, c.if-s-le-IDLE.false)) in (
      c.requires,
      record {
        held = k.0;
        some = k.1;
        ended = subst (λ (q : Quick). TellsAt s.stage s.which s.detail c.args.b s.start (take s.len c.args.buf.now) q)
            c.in-Item.is c.tell-told.ensures;
        firsts = c.first-f.ensures;
        told = omega (arith, c.if-f-lt-IDLE.false);
      },
    )
