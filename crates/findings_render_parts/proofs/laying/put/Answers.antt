-- The invariant: the bytes from the place reached on are left.
use Rattle.laws.proofs.Places.{past, here}
use Rattle.findings_render_parts.proofs.OneByOne.{left_start, left_on, left_end}
use Rattle.findings_render_parts.proofs.laying.put.Goals as goal

pub loop-b-init : goal.loop-b-init
loop-b-init c = left_start

pub loop-b-preserved : goal.loop-b-preserved
loop-b-preserved c =
    left_on c.loop-b.invariant (here c.args.text.now c.loop-b.b-index c.loop-b-test.true) c.put_byte-next.ensures

pub shape_of-out : goal.shape_of-out
shape_of-out c = c.loop-b.invariant.room

pub returns : goal.returns
returns c =
    left_end c.loop-b.invariant (past c.args.text.now c.loop-b.b-index c.loop-b-test.false)
