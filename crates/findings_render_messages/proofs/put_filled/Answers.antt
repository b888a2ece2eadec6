-- The invariant: the bytes of the text from the place reached on are left.
use Rattle.findings_render_parts.proofs.OneByOne.{left_start, left_on, left_end}
use Rattle.findings_render_messages.proofs.Worded.{filled_on, filled_end}
use Rattle.findings_render_messages.proofs.put_filled.Goals as goal

pub loop-b-init : goal.loop-b-init
loop-b-init c = left_start

pub loop-b-preserved : goal.loop-b-preserved
loop-b-preserved c =
    left_on c.loop-b.invariant (filled_on c.args.t c.args.source.now c.args.text.now c.loop-b.b-index c.loop-b-test.true) c.put_inserted-next.ensures

pub shape_of-out : goal.shape_of-out
shape_of-out c = c.loop-b.invariant.room

pub returns : goal.returns
returns c =
    left_end c.loop-b.invariant (filled_end c.args.t c.args.source.now c.args.text.now c.loop-b.b-index c.loop-b-test.false)
