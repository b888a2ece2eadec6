-- The first character decides, and after a # the second.
use mathlib.Core.Path.{sym, ◌∙◌}
use borrow.Author.Tests.{ne_eqb}
use Rattle.lexer.proofs.Opens.{hash_at, no_hash, no_start}
use Rattle.lexer.proofs.opening.start_of.Goals as goal

pub after_hash-requires : goal.after_hash-requires
after_hash-requires c =
    (hash_at c.args.source.now
    c.in-Char.code c.in-Char.next (sym c.in-Char.is ∙ c.decode_at.ensures) c.if-code-eq-HASH.true).0

pub returns-then-code-eq-HASH : goal.returns-then-code-eq-HASH
returns-then-code-eq-HASH c =
    c.after_hash.ensures ∙ (hash_at c.args.source.now c.in-Char.code
    c.in-Char.next (sym c.in-Char.is ∙ c.decode_at.ensures) c.if-code-eq-HASH.true).1

pub returns-else-code-eq-HASH : goal.returns-else-code-eq-HASH
returns-else-code-eq-HASH c =
    no_hash c.args.source.now c.in-Char.code
    c.in-Char.next (sym c.in-Char.is ∙ c.decode_at.ensures) (ne_eqb _ _ c.if-code-eq-HASH.false)

pub returns-in_default : goal.returns-in_default
returns-in_default c = no_start c.args.source.now c.decode_at.result c.decode_at.ensures c.in_default.not-Char
