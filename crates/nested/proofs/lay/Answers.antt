-- Three stores are the three words laid (law `put_sets`).
use native.Mathlib.Omega.{arith}
use Prim.Native.Nat.{◌*◌}
use lib.ListN.{length-set}
use Rattle.nested.proofs.Memory.{put_sets}
use Rattle.nested.specs.Said.{Put}
use Rattle.nested.proofs.lay.Goals as goal

pub bounds-nodes-p-2 : goal.bounds-nodes-p-2
bounds-nodes-p-2 c = simp length-set (omega arith)

pub bounds-nodes-p-3 : goal.bounds-nodes-p-3
bounds-nodes-p-3 c = simp length-set (omega arith)

pub returns : goal.returns
unfolding Put
returns c = λ h hi hn. put_sets c.args.nodes.now (c.args.w * 3) _ _ _ (omega arith) hi hn
