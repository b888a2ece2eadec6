-- A number's text is its extent, any other item has none (Giving).
use borrow.Author.Tests.{eq-eqb, ne_eqb}
use mathlib.Core.Path.{refl}
use Rattle.pieces_quick.proofs.Giving.{number_copied, nothing_copied}
use Rattle.pieces_quick.proofs.finishing.bare_record.Goals as goal

pub returns-then-m-eq-NUMBER : goal.returns-then-m-eq-NUMBER
returns-then-m-eq-NUMBER c =
    number_copied c.args.depth c.args.m c.args.s c.args.raw.now c.args.text.now _ c.record_of.result c.requires.0.fine c.requires.1
    (eq-eqb _ _ c.if-m-eq-NUMBER.true) c.copy_all.ensures c.record_of.ensures

pub returns : goal.returns
returns c =
    nothing_copied c.args.depth c.args.m c.args.s c.args.raw.now c.args.text.now _ c.record_of-2.result c.requires.0.fine c.requires.1
    (ne_eqb _ _ c.if-m-eq-NUMBER.false) refl c.record_of-2.ensures
