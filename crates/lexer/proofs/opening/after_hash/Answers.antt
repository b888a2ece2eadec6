-- The character after the first # decides.
use mathlib.Core.Path.{sym, ◌∙◌}
use borrow.Author.Tests.{ne_eqb}
use Rattle.lexer.proofs.Opens.{bang, no_bang, hash_none}
use Rattle.lexer.proofs.opening.after_hash.Goals as goal

pub returns-then-code-eq-BANG : goal.returns-then-code-eq-BANG
returns-then-code-eq-BANG c =
    c.line_end.ensures ∙ bang c.args.source.now c.args.at c.in-Char.code
    c.in-Char.next (sym c.in-Char.is ∙ c.decode_at.ensures) c.if-code-eq-BANG.true c.requires

pub returns-else-code-eq-BANG : goal.returns-else-code-eq-BANG
returns-else-code-eq-BANG c =
    no_bang c.args.source.now c.args.at c.in-Char.code
    c.in-Char.next (sym c.in-Char.is ∙ c.decode_at.ensures) (ne_eqb _ _ c.if-code-eq-BANG.false)

pub returns-in_default : goal.returns-in_default
returns-in_default c = hash_none c.args.source.now c.args.at c.decode_at.result c.decode_at.ensures c.in_default.not-Char
