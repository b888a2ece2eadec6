-- Two bytes with a backslash, else one.
use mathlib.Core.Path.{sym, ap, ◌∙◌}
use lib.ListN.{length}
use Rattle.items_writing.proofs.QuotedBytes.{two_bytes, one_byte}
use Rattle.items_writing.proofs.quoting.byte_length.Goals as goal

pub returns-then-is_marked : goal.returns-then-is_marked
returns-then-is_marked c = sym (ap length (two_bytes _ _ (sym c.is_marked.ensures ∙ c.if-is_marked.true)))

pub returns : goal.returns
returns c = sym (ap length (one_byte _ _ (sym c.is_marked.ensures ∙ c.if-is_marked.false)))
