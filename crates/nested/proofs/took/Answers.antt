-- The node of the level is put, and the frame holds it.
use native.Mathlib.Omega.{arith}
use Rattle.nested.proofs.took.Goals as goal

pub overflow_sub-r : goal.overflow_sub-r
overflow_sub-r c = omega (arith, c.requires)

pub overflow_sub-r-2 : goal.overflow_sub-r-2
overflow_sub-r-2 c = omega (arith, c.requires)

pub returns : goal.returns
returns c = (c.held.ensures, c.put.ensures)
