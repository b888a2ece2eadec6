-- The loop keeps: up to the place i stand characters, each of which begins before the place `until` (Walks).
use native.Mathlib.Omega.{arith}
use mathlib.Core.Path.{sym}
use lib.ListN.{length-drop}
use lib.Seq.{length-take-le}
use Rattle.chars.specs.Walk.{stays, goes}
use Rattle.chars.proofs.Wide.{past_some, past_fits}
use Rattle.chars.proofs.Walks.{walk_plain}
use Rattle.chars.proofs.letters.chars_end.Goals as goal

pub loop-i-init : goal.loop-i-init
loop-i-init c = stays

pub slice_bounds-plain_end-end : goal.slice_bounds-plain_end-end
slice_bounds-plain_end-end c = sym (length-take-le c.args.until c.args.s.now c.requires)

pub loop-i-preserved : goal.loop-i-preserved
loop-i-preserved c =
    let f = c.args in
    walk_plain f.s.now f.until f.from c.requires c.loop-i.i
    c.plain_end-j.result c.loop-i.invariant c.plain_end-j.ensures

pub overflow_add-i : goal.overflow_add-i
overflow_add-i c = omega (arith, past_fits _ _ (c.in-Some.ensures), length-drop c.loop-i.i c.args.s.now)

pub loop-i-smaller-in-Some : goal.loop-i-smaller-in-Some
loop-i-smaller-in-Some c = omega (arith, past_some _ _ (c.in-Some.ensures), past_fits _ _ (c.in-Some.ensures), length-drop c.loop-i.i c.args.s.now)

pub loop-i-preserved-in-Some : goal.loop-i-preserved-in-Some
loop-i-preserved-in-Some c = goes c.loop-i.invariant c.loop-i-test.true (c.in-Some.ensures).reads
