-- After i turns the first i bytes of the name are pasted at the place, and no others.
use native.Mathlib.Omega.{arith}
use native.Mathlib.Numerals.{add-one}
use mathlib.Core.Path.{ap, ◌∙◌}
use lib.ListN.{length}
use lib.Seq.{length-paste, paste-suc, paste-zero}
use Rattle.names.proofs.Laws.{laid_all}
use Rattle.names.proofs.entering.copy.Goals as goal

pub loop-i-init : goal.loop-i-init
loop-i-init c = paste-zero c.args.bytes.now c.args.at c.args.name.now

pub bounds-bytes-at : goal.bounds-bytes-at
bounds-bytes-at c =
    rw c.loop-i.invariant (rw (length-paste c.args.bytes.now
    c.args.at c.args.name.now c.loop-i.i (omega arith) (omega arith)) (omega arith))

pub loop-i-preserved : goal.loop-i-preserved
loop-i-preserved c =
    rw (c.loop-i.invariant, add-one)
    (paste-suc c.args.bytes.now c.args.at c.args.name.now c.loop-i.i 0 (omega arith) (omega arith))

pub shape_of-bytes : goal.shape_of-bytes
shape_of-bytes c =
    ap length c.loop-i.invariant
    ∙ length-paste c.args.bytes.now c.args.at c.args.name.now c.loop-i.i (omega arith) (omega arith)

pub returns : goal.returns
returns c =
    laid_all c.args.bytes.now c.args.at c.args.name.now _ c.loop-i.invariant (omega arith)
