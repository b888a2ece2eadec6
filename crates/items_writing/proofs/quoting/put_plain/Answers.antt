-- The invariant: the first bytes are copied.
use mathlib.Core.Path.{refl}
use lib.ListN.{length-set}
use native.Mathlib.Omega.{arith}
use Rattle.items_writing.proofs.QuotedBytes.{copied_on, copied_all}
use Rattle.items_writing.proofs.quoting.put_plain.Goals as goal

pub loop-i-init : goal.loop-i-init
loop-i-init c = (refl, refl)

pub loop-i-preserved : goal.loop-i-preserved
loop-i-preserved c = (
  simp length-set (omega arith),
  copied_on c.args.t.now c.args.out.now c.loop-i.i
      c.loop-i.invariant.1 (omega arith) (omega arith),
)

pub returns : goal.returns
returns c = (refl, copied_all c.args.t.now c.args.out.now _ c.loop-i.invariant.1 (omega arith))
