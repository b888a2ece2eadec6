-- The invariant: what was copied so far is the front of the bytes.
use mathlib.Core.Path.{refl}
use lib.ListN.{length-set}
use native.Mathlib.Omega.{arith}
use Rattle.escapes.proofs.Laying.{copied_next, copied_end}
use Rattle.escapes.proofs.put_run.Goals as goal

pub loop-i-init : goal.loop-i-init
loop-i-init c = (refl, refl)

pub loop-i-preserved : goal.loop-i-preserved
loop-i-preserved c = (
  simp length-set (omega arith),
  copied_next c.args.run.now
      c.args.free.now c.loop-i.free c.loop-i.i (omega arith) (omega arith) c.loop-i.invariant.1,
)

pub returns : goal.returns
returns c = copied_end c.args.run.now c.args.free.now _ _ (omega arith) c.loop-i.invariant.1
