-- `only_one` is right by what `decode_at` says of the front of the bytes.
use mathlib.Core.Path.{◌∙◌}
use Rattle.spellings.proofs.Forms.{alone_is, alone_all, alone_more}
use Rattle.spellings.proofs.characters.only_one.Goals as goal

pub returns-then-next-t : goal.returns-then-next-t
returns-then-next-t c =
    alone_all c.args.report c.args.t.now
    c.decode_at.ensures c.in-Char.code c.in-Char.next c.in-Char.is c.if-next-t.true

pub returns-else-next-t : goal.returns-else-next-t
returns-else-next-t c =
    c.no_name.ensures ∙ alone_more c.args.report c.args.t.now
    c.decode_at.ensures c.in-Char.code c.in-Char.next c.in-Char.is c.if-next-t.false

pub returns-in-Bad : goal.returns-in-Bad
returns-in-Bad c =
    c.no_name-in-Bad.ensures
    ∙ alone_is c.args.report c.args.t.now c.decode_at.ensures _ c.in-Bad.is

pub returns-in-Cut : goal.returns-in-Cut
returns-in-Cut c =
    c.no_name-in-Cut.ensures
    ∙ alone_is c.args.report c.args.t.now c.decode_at.ensures _ c.in-Cut.is

pub returns-in-End : goal.returns-in-End
returns-in-End c =
    c.no_name-in-End.ensures
    ∙ alone_is c.args.report c.args.t.now c.decode_at.ensures _ c.in-End.is
