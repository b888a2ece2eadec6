-- The loop keeps: the bytes before the place are replaced, those from it on are as they were.
use Rattle.std.proofs.Common.{refl, ◌∙◌, arith, length-set}
use Rattle.pieces_edges.proofs.Newlines.{replaced_none, replaced_next, replaced_all}
use Rattle.pieces_edges.proofs.files.newlines.Goals as goal

pub loop-i-init : goal.loop-i-init
loop-i-init c = (refl, replaced_none _)

pub loop-i-preserved : goal.loop-i-preserved
loop-i-preserved c =
    let l = c.loop-i in
    (simp length-set (omega arith), replaced_next l.i c.args.source.now (omega arith) l.invariant.1 c.real-byte.ensures)

pub returns : goal.returns
returns c =
    let l = c.loop-i in
    l.invariant.1 ∙ replaced_all l.i c.args.source.now (omega arith)
