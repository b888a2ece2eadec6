-- Where there is room, the node is laid; where there is none, the promise asks for nothing.
use native.Mathlib.Omega.{arith}
use Rattle.nested.specs.Said.{Put}
use Rattle.nested.proofs.put.Goals as goal

pub returns-else-w-nodes : goal.returns-else-w-nodes
unfolding Put
returns-else-w-nodes c = λ h hi hn. absurd (omega (arith, h, c.if-w-nodes.false))
