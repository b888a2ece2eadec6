-- The loop keeps: up to the place i the text is passed, by ASCII and by characters past it.
use native.Mathlib.Omega.{arith}
use Rattle.chars.proofs.Wide.{passed_on, passed_wides}
use Rattle.items_writing.proofs.whole.good_end.Goals as goal

pub loop-i-init : goal.loop-i-init
loop-i-init c = c.ascii_end-i.ensures

pub returns-then-j-i : goal.returns-then-j-i
returns-then-j-i c = c.loop-i.invariant

pub loop-i-smaller : goal.loop-i-smaller
loop-i-smaller c = omega (arith, c.ascii_end-i-in-loop-i.ensures.0)

pub loop-i-preserved : goal.loop-i-preserved
loop-i-preserved c =
    passed_on _ _ _ _ c.loop-i.invariant
    (passed_on _ _ _ _ (passed_wides _ _ _ c.wide_end-j.ensures) c.ascii_end-i-in-loop-i.ensures)

pub returns : goal.returns
returns c = c.loop-i.invariant
