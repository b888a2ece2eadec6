-- The invariant: the characters from the place i on are left.
use native.Mathlib.Omega.{arith}
use Rattle.laws.proofs.Lent.{part_rest}
use Rattle.findings_render_parts.proofs.OneByOne.{left_start, left_on, left_end}
use Rattle.findings_render_parts.proofs.Walks.{walked_on, walked_end}
use Rattle.findings_render_parts.proofs.characters.put_walked.Goals as goal

pub loop-i-init : goal.loop-i-init
loop-i-init g c = (omega arith, left_start)

pub seen_at-u-requires : goal.seen_at-u-requires
seen_at-u-requires g c = c.loop-i-test.true

pub loop-i-preserved : goal.loop-i-preserved
loop-i-preserved g c = (
  omega arith,
  rw c.seen_at-u.ensures.0
      (left_on c.loop-i.invariant.1 (walked_on (g.W.Walker.made c.args.walker) c.args.t.now c.loop-i.i c.loop-i-test.true)
      (rw (part_rest c.args.t.now c.loop-i.i, c.seen_at-u.ensures.0) at c.put_one-next.ensures)),
)

pub shape_of-out : goal.shape_of-out
shape_of-out g c = c.loop-i.invariant.1.room

pub returns : goal.returns
returns g c =
    left_end c.loop-i.invariant.1 (walked_end (g.W.Walker.made c.args.walker) c.args.t.now c.loop-i.i c.loop-i-test.false)
