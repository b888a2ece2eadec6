-- The text is the part of the extent that was copied (Giving: part-copied).
use native.Mathlib.Omega.{arith}
use Rattle.pieces_quick.proofs.Giving.{part_copied}
use Rattle.pieces_quick.proofs.finishing.part_record.Goals as goal

pub returns : goal.returns
returns c =
    part_copied c.args.depth c.args.m c.args.s c.args.raw.now c.args.text.now _ c.record_of.result c.requires.0.fine
    c.args.from c.args.to c.requires.1 (omega (arith, c.if-from-start.false)) (omega (arith, c.if-to-from.false))
    (omega (arith, c.if-s-to.false, c.requires.0.held))
    c.copy_all.ensures c.record_of.ensures
