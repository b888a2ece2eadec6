-- The text lies between the lines unless there is an escape and something is decoded; then its length is the decoder's.
use Rattle.items.specs.Meaning.{lined_text}
use borrow.Author.Tests.{lt-ltb}
use native.Mathlib.Omega.{arith}
use mathlib.Core.Path.{sym, ◌∙◌}
use Rattle.meaning.proofs.quoted.lined_text.Goals as goal

pub returns-then-length-eq0 : goal.returns-then-length-eq0
unfolding lined_text
returns-then-length-eq0 c = simp (
  sym c.has_escape.ensures ∙ c.if-has_escape.true,
  sym c.decoded_length-length.ensures,
  c.if-length-eq0.true,
) c.between.ensures

pub returns-then-has_escape : goal.returns-then-has_escape
unfolding lined_text
returns-then-has_escape c = simp (
  sym c.has_escape.ensures ∙ c.if-has_escape.true,
  sym c.decoded_length-length.ensures,
  lt-ltb 0 c.decoded_length-length.result (omega arith),
)

pub returns : goal.returns
unfolding lined_text
returns c = simp (sym c.has_escape.ensures ∙ c.if-has_escape.false) c.between-2.ensures
