-- The loop keeps: up to the place i the text is passed, by long blocks of ASCII (Ascii).
use native.Mathlib.Omega.{arith}
use Rattle.laws.proofs.Blocks.{block_room}
use Rattle.chars.specs.Utf8.{ascii}
use Rattle.chars.proofs.Ascii.{passed_block}
use Rattle.chars.proofs.Wide.{passed_none, passed_on}
use Rattle.chars.proofs.decode.past_long_blocks.Goals as goal

pub loop-i-init : goal.loop-i-init
loop-i-init c = passed_none _ _

pub overflow_add-i : goal.overflow_add-i
overflow_add-i c = omega (arith, block_room ascii c.args.s.now c.loop-i.i 64 c.starts_run.ensures c.loop-i-test.true (omega arith))

pub loop-i-smaller : goal.loop-i-smaller
loop-i-smaller c = omega (arith, block_room ascii c.args.s.now c.loop-i.i 64 c.starts_run.ensures c.loop-i-test.true (omega arith))

pub loop-i-preserved : goal.loop-i-preserved
loop-i-preserved c = passed_on _ _ _ _ c.loop-i.invariant (passed_block _ _ 64 c.starts_run.ensures c.loop-i-test.true)
