-- What is known need not be asked.
use mathlib.Core.Path.{sym}
use Rattle.lexer_fields.proofs.single.seen.Goals as goal

pub returns-then-known : goal.returns-then-known
returns-then-known c = sym (c.requires c.if-known.true)
