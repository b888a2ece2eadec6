-- A turn is the item that begins next, if there is one.
use mathlib.Core.Path.{sym, ap, subst}
use Rattle.lexer.specs.Reading.{found_of}
use Rattle.lexer.specs.Begun.{BegunAs}
use Rattle.lexer.specs.declared.Beginning.{Beginning}
use Rattle.lexer.proofs.Turns.{turn_nothing}
use Rattle.lexer.proofs.reading.turn_at.Goals as goal

pub item_at-requires : goal.item_at-requires
item_at-requires c =
    (c.requires.0, c.requires.1, subst (λ (b : Beginning). BegunAs c.args.source.now c.args.p.at b) c.in-At.is c.begin_at.ensures)

pub wrong-requires : goal.wrong-requires
wrong-requires c =
    (c.requires.0, subst (λ (b : Beginning). BegunAs c.args.source.now c.args.p.at b) c.in-Wrong.is c.begin_at.ensures)

pub returns-in-Wrong : goal.returns-in-Wrong
returns-in-Wrong c = c.wrong.ensures c.args.free

pub returns-in-Nothing : goal.returns-in-Nothing
returns-in-Nothing c =
    sym (ap (found_of c.args.free) (turn_nothing c.args.source.now c.args.p
    (subst (λ (b : Beginning). BegunAs c.args.source.now c.args.p.at b) c.in-Nothing.is c.begin_at.ensures)))
