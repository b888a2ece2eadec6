-- The text lies between the quotes unless there is an escape; then its length is the decoder's.
use Rattle.items.specs.Meaning.{string_text}
use mathlib.Core.Path.{sym, ◌∙◌}
use Rattle.meaning.proofs.quoted.string_text.Goals as goal

pub returns-then-has_escape : goal.returns-then-has_escape
unfolding string_text
returns-then-has_escape c = simp (sym c.has_escape.ensures ∙ c.if-has_escape.true, c.decoded_length.ensures)

pub returns : goal.returns
unfolding string_text
returns c = simp (sym c.has_escape.ensures ∙ c.if-has_escape.false) c.between.ensures
