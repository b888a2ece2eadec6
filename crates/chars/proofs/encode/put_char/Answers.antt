-- The bytes stored are the line of the table that the code point is on; the room that was tested is its width, so every store is
-- within the memory, and what is stored is all of the encoding (Lay).
use borrow.Author.Tests.{not-true, not-false}
use native.Mathlib.Omega.{arith}
use mathlib.Core.Path.{sym, ◌∙◌}
use mathlib.Core.Logic.{⊎_elim}
use lib.ListN.{length-set}
use Rattle.chars.specs.Encode.{one, two, three, four}
use Rattle.chars.proofs.Scalar.{scalar_true}
use Rattle.chars.proofs.Width.{wide, width_two, width_three, width_four, utf8-one, utf8-two, utf8-three, utf8-four}
use Rattle.chars.proofs.Lay.{lay_none, lay_short, lay_bytes}
use Rattle.chars.proofs.encode.put_char.Goals as goal

pub returns-then-not-is_scalar : goal.returns-then-not-is_scalar
returns-then-not-is_scalar c = lay_none c.args.code c.args.text.now (sym c.is_scalar.ensures ∙ not-true _ c.if-not-is_scalar.true-raw)

pub returns-then-text-char_width : goal.returns-then-text-char_width
returns-then-text-char_width c = lay_short c.args.code c.args.text.now _ (sym c.is_scalar.ensures
    ∙ not-false _ c.if-not-is_scalar.false-raw) c.char_width.ensures c.if-text-char_width.true

pub bounds-text-0 : goal.bounds-text-0
bounds-text-0 c = omega (arith, c.if-text-char_width.false, c.char_width.ensures, wide c.args.code)

pub returns-then-code-lt-TWO_FROM : goal.returns-then-code-lt-TWO_FROM
returns-then-code-lt-TWO_FROM c = lay_bytes c.args.code c.args.text.now _
    (one c.args.code) (sym c.is_scalar.ensures ∙ not-false _ c.if-not-is_scalar.false-raw)
    c.char_width.ensures c.if-text-char_width.false (utf8-one c.args.code c.if-code-lt-TWO_FROM.true)

pub bounds-text-0-then-code-lt-THREE_FROM : goal.bounds-text-0-then-code-lt-THREE_FROM
bounds-text-0-then-code-lt-THREE_FROM c = omega (
  arith,
  c.if-text-char_width.false,
  c.char_width.ensures,
  width_two c.args.code c.if-code-lt-TWO_FROM.false,
)

pub bounds-text-1 : goal.bounds-text-1
bounds-text-1 c = simp length-set (omega (
  arith,
  c.if-text-char_width.false,
  c.char_width.ensures,
  width_two c.args.code c.if-code-lt-TWO_FROM.false,
))

pub returns-then-code-lt-THREE_FROM : goal.returns-then-code-lt-THREE_FROM
returns-then-code-lt-THREE_FROM c = rw c.later.ensures (lay_bytes c.args.code c.args.text.now _ (two c.args.code)
    (sym c.is_scalar.ensures ∙ not-false _ c.if-not-is_scalar.false-raw) c.char_width.ensures
    c.if-text-char_width.false (utf8-two c.args.code c.if-code-lt-TWO_FROM.false c.if-code-lt-THREE_FROM.true))

pub bounds-text-0-then-code-lt-FOUR_FROM : goal.bounds-text-0-then-code-lt-FOUR_FROM
bounds-text-0-then-code-lt-FOUR_FROM c = omega (
  arith,
  c.if-text-char_width.false,
  c.char_width.ensures,
  width_three c.args.code c.if-code-lt-THREE_FROM.false,
)

pub bounds-text-1-then-code-lt-FOUR_FROM : goal.bounds-text-1-then-code-lt-FOUR_FROM
bounds-text-1-then-code-lt-FOUR_FROM c = simp length-set (omega (
  arith,
  c.if-text-char_width.false,
  c.char_width.ensures,
  width_three c.args.code c.if-code-lt-THREE_FROM.false,
))

pub bounds-text-2 : goal.bounds-text-2
bounds-text-2 c = simp length-set (omega (
  arith,
  c.if-text-char_width.false,
  c.char_width.ensures,
  width_three c.args.code c.if-code-lt-THREE_FROM.false,
))

pub returns-then-code-lt-FOUR_FROM : goal.returns-then-code-lt-FOUR_FROM
returns-then-code-lt-FOUR_FROM c = rw (c.later-then-code-lt-FOUR_FROM-2.ensures, c.later-then-code-lt-FOUR_FROM.ensures) (lay_bytes c.args.code c.args.text.now _ (three c.args.code)
    (sym c.is_scalar.ensures ∙ not-false _ c.if-not-is_scalar.false-raw) c.char_width.ensures
    c.if-text-char_width.false (utf8-three c.args.code c.if-code-lt-THREE_FROM.false c.if-code-lt-FOUR_FROM.true))

pub overflow_cast-text-2 : goal.overflow_cast-text-2
overflow_cast-text-2 c = ⊎_elim (λ h. omega arith) (λ h. omega arith)
    (scalar_true c.args.code (sym c.is_scalar.ensures ∙ not-false _ c.if-not-is_scalar.false-raw))

pub bounds-text-0-2 : goal.bounds-text-0-2
bounds-text-0-2 c = omega (
  arith,
  c.if-text-char_width.false,
  c.char_width.ensures,
  width_four c.args.code c.if-code-lt-FOUR_FROM.false,
)

pub bounds-text-1-2 : goal.bounds-text-1-2
bounds-text-1-2 c = simp length-set (omega (
  arith,
  c.if-text-char_width.false,
  c.char_width.ensures,
  width_four c.args.code c.if-code-lt-FOUR_FROM.false,
))

pub bounds-text-2-2 : goal.bounds-text-2-2
bounds-text-2-2 c = simp length-set (omega (
  arith,
  c.if-text-char_width.false,
  c.char_width.ensures,
  width_four c.args.code c.if-code-lt-FOUR_FROM.false,
))

pub bounds-text-3 : goal.bounds-text-3
bounds-text-3 c = simp length-set (omega (
  arith,
  c.if-text-char_width.false,
  c.char_width.ensures,
  width_four c.args.code c.if-code-lt-FOUR_FROM.false,
))

pub returns : goal.returns
returns c = rw (c.later-4.ensures, c.later-3.ensures, c.later-2.ensures) (lay_bytes c.args.code c.args.text.now _
    (four c.args.code) (sym c.is_scalar.ensures ∙ not-false _ c.if-not-is_scalar.false-raw)
    c.char_width.ensures c.if-text-char_width.false (utf8-four c.args.code c.if-code-lt-FOUR_FROM.false))
