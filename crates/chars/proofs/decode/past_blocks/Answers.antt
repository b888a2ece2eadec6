-- The loop keeps: up to the place i the text is passed, by blocks of ASCII (Ascii) and of pairs (Pairs).
use native.Mathlib.Omega.{arith}
use Rattle.laws.proofs.Blocks.{block_room}
use Rattle.chars.specs.Utf8.{ascii}
use Rattle.chars.proofs.Ascii.{passed_block}
use Rattle.chars.proofs.Pairs.{passed_pairs, pairs_room}
use Rattle.chars.proofs.Wide.{passed_none, passed_on}
use Rattle.chars.proofs.decode.past_blocks.Goals as goal

pub loop-i-init : goal.loop-i-init
loop-i-init c = passed_none _ _

pub overflow_add-i : goal.overflow_add-i
overflow_add-i c = omega (arith, block_room ascii c.args.s.now c.loop-i.i 16 c.starts_run.ensures c.if-starts_run.true (omega arith))

pub loop-i-smaller-then-starts_run : goal.loop-i-smaller-then-starts_run
loop-i-smaller-then-starts_run c = omega (arith, block_room ascii c.args.s.now c.loop-i.i 16 c.starts_run.ensures c.if-starts_run.true (omega arith))

pub loop-i-preserved-then-starts_run : goal.loop-i-preserved-then-starts_run
loop-i-preserved-then-starts_run c = passed_on _ _ _ _ c.loop-i.invariant (passed_block _ _ 16 c.starts_run.ensures c.if-starts_run.true)

pub overflow_add-i-in-Some : goal.overflow_add-i-in-Some
overflow_add-i-in-Some c =
    let told = c.in-Some.ensures in
    omega (arith, told.1, (pairs_room c.args.s.now c.loop-i.i told.0).1)

pub loop-i-smaller : goal.loop-i-smaller
loop-i-smaller c =
    let told = c.in-Some.ensures in
    let room = pairs_room c.args.s.now c.loop-i.i told.0 in
    omega (arith, told.1, room.0, room.1)

pub loop-i-preserved : goal.loop-i-preserved
loop-i-preserved c =
    let told = c.in-Some.ensures in
    passed_on _ _ _ _ c.loop-i.invariant (rw told.1 (passed_pairs c.args.s.now c.loop-i.i told.0))
