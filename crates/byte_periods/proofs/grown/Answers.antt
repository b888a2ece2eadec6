-- The loop keeps the greatest suffix of the bytes so far. Each turn its start or its end is later.
use native.Mathlib.Omega.{arith}
use Rattle.byte_periods.proofs.grown.Goals as goal

pub loop-v-init : goal.loop-v-init
loop-v-init c = c.requires

pub next-v-requires : goal.next-v-requires
next-v-requires c = (c.loop-v-test.true, c.loop-v.invariant.1)

pub loop-v-smaller : goal.loop-v-smaller
loop-v-smaller c = let r = c.next-v.ensures in omega (arith, r.2, r.0, r.1.room)

pub loop-v-preserved : goal.loop-v-preserved
loop-v-preserved c = let r = c.next-v.ensures in (r.0, r.1)

pub returns : goal.returns
returns c = let i = c.loop-v.invariant in (omega (arith, i.0, c.loop-v-test.false), i.1)
