-- An entry past the count bears nothing; one before it bears the name if its bytes are the name's.
use native.Mathlib.Omega.{arith}
use mathlib.Core.Path.{◌∙◌}
use borrow.Author.Tests.{le-ltb}
use Rattle.names.proofs.Laws.{bears_out, bears-same}
use Rattle.names.proofs.layout.bears.Goals as goal

pub returns-else-k-n : goal.returns-else-k-n
returns-else-k-n c = le-ltb _ _ c.if-k-n.false ∙ bears_out _ _ _ _ _ c.word-n.ensures c.if-k-n.false

pub name_at-requires : goal.name_at-requires
name_at-requires c = record {
  readable = c.requires;
  k_lt_half_names = omega (arith, c.word-n.ensures);
}

pub returns-then-k-n : goal.returns-then-k-n
returns-then-k-n c = c.equal.ensures ∙ rw c.name_at.ensures (bears-same _ _ _ _ _ c.word-n.ensures c.if-k-n.true)
