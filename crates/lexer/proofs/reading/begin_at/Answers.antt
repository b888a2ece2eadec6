-- A string is told by its bytes, and any other item stands behind its first character (Stood).
use mathlib.Core.Path.{sym, ◌∙◌}
use Rattle.lexer.proofs.Stood.{first_stands}
use Rattle.lexer.proofs.reading.begin_at.Goals as goal

pub begin_string-requires : goal.begin_string-requires
begin_string-requires c = c.quote_at.ensures c.if-quote_at.true

pub returns-in-Some : goal.returns-in-Some
returns-in-Some c =
    let f = c.in-Some.first in
    first_stands c.args.source.now c.args.at f.code f.at f.past c.first_phase.result
    (sym c.consume_whitespace.ensures ∙ c.in-Some.is) c.first_phase.ensures

pub returns-in-None : goal.returns-in-None
returns-in-None c = sym c.consume_whitespace.ensures ∙ c.in-None.is
