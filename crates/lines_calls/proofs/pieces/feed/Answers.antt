-- The loop keeps: what is left of the piece leads where the whole of it leads (`Feeding`).
use Rattle.lines.proofs.Feeding.{feeding_start, feeding_next, feeding_end}
use Rattle.lines_calls.proofs.pieces.feed.Goals as goal

pub loop-b-init : goal.loop-b-init
loop-b-init c = let a = c.args in feeding_start a.st a.bytes.now a.index.now c.requires

pub step-next-requires : goal.step-next-requires
step-next-requires c = c.loop-b.invariant.low

pub loop-b-preserved : goal.loop-b-preserved
loop-b-preserved c =
    let a = c.args in
    let l = c.loop-b in
    feeding_next a.st
    a.bytes.now a.index.now l.t l.index l.b-index l.invariant c.loop-b-test.true
    c.step-next.ensures c.note.ensures

pub shape_of-index : goal.shape_of-index
shape_of-index c = c.loop-b.invariant.size

pub returns : goal.returns
returns c =
    let a = c.args in
    let l = c.loop-b in
    feeding_end a.st a.bytes.now a.index.now l.t l.index l.b-index l.invariant c.loop-b-test.false
