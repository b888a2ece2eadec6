-- The loop keeps: all bytes before the place that is read are the mark, and so are those from there on, exactly if all are.
use mathlib.Core.Bool.{Bool, ◌&&◌}
use Rattle.std.proofs.Common.{sym, refl, ap, ◌∙◌, arith, drop_of_length-le}
use Rattle.laws.proofs.Choice.{and_yes}
use Rattle.pieces_cuttings.specs.Inner.{is_unwritten}
use Rattle.pieces_cuttings.proofs.Unwritten.{marks_next, marked_none}
use Rattle.pieces_cuttings.proofs.noting.marked.Goals as goal

pub loop-byte-init : goal.loop-byte-init
loop-byte-init c = refl

pub loop-byte-preserved : goal.loop-byte-preserved
loop-byte-preserved c =
    let l = c.loop-byte in
    marks_next c.args.text.now l.byte-index (omega arith) l.all ∙ l.invariant

pub returns : goal.returns
returns c =
    let l = c.loop-byte in
    let t = c.args.text.now in
    sym (and_yes l.all)
    ∙ ap (λ (u : Bool). l.all && u) (sym marked_none ∙ ap is_unwritten (sym (drop_of_length-le t (omega arith))))
    ∙ l.invariant
