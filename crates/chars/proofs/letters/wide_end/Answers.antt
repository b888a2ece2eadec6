-- The loop keeps: up to the place i stand characters past ASCII.
use native.Mathlib.Omega.{arith}
use lib.ListN.{length-drop}
use Rattle.chars.specs.Wide.{empty, longer}
use Rattle.chars.proofs.Wide.{past_fits, past_some}
use Rattle.chars.proofs.letters.wide_end.Goals as goal

pub loop-n-init : goal.loop-n-init
loop-n-init c = empty

pub overflow_add-i : goal.overflow_add-i
overflow_add-i c = omega (arith, past_fits _ _ (c.in-Some.ensures), length-drop c.loop-n.i c.args.s.now)

pub loop-n-smaller : goal.loop-n-smaller
loop-n-smaller c = omega (arith, past_some _ _ (c.in-Some.ensures), past_fits _ _ (c.in-Some.ensures), length-drop c.loop-n.i c.args.s.now)

pub loop-n-preserved : goal.loop-n-preserved
loop-n-preserved c = longer c.loop-n.invariant (c.in-Some.ensures)
