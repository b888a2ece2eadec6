-- The text was copied, and the record says how long it is where there is one.
use mathlib.Core.Path.{sym, ◌∙◌}
use native.Mathlib.Omega.{arith}
use Rattle.pieces_giving.proofs.Gives.{copied_short, given_with, given_without}
use Rattle.meaning.specs.Places.{place_in}
use Rattle.pieces_giving.proofs.give.give.Goals as goal

pub overflow_cast-copied : goal.overflow_cast-copied
overflow_cast-copied c =
    omega (
      arith,
      c.copy_text-copied.ensures.0,
      copied_short c.args.m.kind c.args.extent.from c.args.raw.now c.args.m.text,
    )

pub returns-then-has_text : goal.returns-then-has_text
returns-then-has_text c = (
  given_with c.args.depth c.args.report
      c.args.m (place_in c.args.last) c.args.extent.from c.args.extent.to c.args.raw.now
      c.args.text.now _ _ _ c.place-at.ensures c.copy_text-copied.ensures.1 _
      (sym c.has_text.ensures ∙ c.if-has_text.true) c.copy_text-copied.ensures.0 c.record_with.ensures,
  c.copy_text-copied.ensures.1,
)

pub returns : goal.returns
returns c = (
  given_without c.args.depth c.args.report c.args.m (place_in c.args.last) c.args.extent.from
      c.args.extent.to c.args.raw.now c.args.text.now _ _ _ c.place-at.ensures
      c.copy_text-copied.ensures.1 (sym c.has_text.ensures ∙ c.if-has_text.false) c.record_with-2.ensures,
  c.copy_text-copied.ensures.1,
)
