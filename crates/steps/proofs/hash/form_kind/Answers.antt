-- The tests of `form_kind` in its order.
use mathlib.Core.Path.{sym, ◌∙◌}
use borrow.Author.Tests.{le-leb, lt-leb}
use Rattle.chars.specs.Encode.{utf8, bytes_of}
use Rattle.items.specs.Readers.{form_kind}
use Rattle.steps.proofs.hash.form_kind.Goals as goal

pub returns-then-begins_with : goal.returns-then-begins_with
unfolding form_kind bytes_of utf8
returns-then-begins_with c = simp (sym c.begins_with.ensures ∙ c.if-begins_with.true)

pub returns-then-raw-le-CHARACTER_MARK : goal.returns-then-raw-le-CHARACTER_MARK
unfolding form_kind bytes_of utf8
returns-then-raw-le-CHARACTER_MARK c = simp (
  sym c.begins_with.ensures ∙ c.if-begins_with.false,
  sym c.begins_with-2.ensures ∙ c.if-begins_with-2.true,
  le-leb _ _ c.if-raw-le-CHARACTER_MARK.true,
)

pub returns-then-begins_with-2 : goal.returns-then-begins_with-2
unfolding form_kind bytes_of utf8
returns-then-begins_with-2 c = simp (
  sym c.begins_with.ensures ∙ c.if-begins_with.false,
  sym c.begins_with-2.ensures ∙ c.if-begins_with-2.true,
  lt-leb _ _ c.if-raw-le-CHARACTER_MARK.false,
)

pub returns-then-equal : goal.returns-then-equal
unfolding form_kind bytes_of utf8
returns-then-equal c =
    simp (
      sym c.begins_with.ensures ∙ c.if-begins_with.false,
      sym c.begins_with-2.ensures ∙ c.if-begins_with-2.false,
      sym c.equal.ensures ∙ c.if-equal.true,
    )

pub returns-then-equal-2 : goal.returns-then-equal-2
unfolding form_kind bytes_of utf8
returns-then-equal-2 c =
    simp (
      sym c.begins_with.ensures ∙ c.if-begins_with.false,
      sym c.begins_with-2.ensures ∙ c.if-begins_with-2.false,
      sym c.equal.ensures ∙ c.if-equal.false,
      sym c.equal-2.ensures ∙ c.if-equal-2.true,
    )

pub returns : goal.returns
unfolding form_kind bytes_of utf8
returns c =
    simp (
      sym c.begins_with.ensures ∙ c.if-begins_with.false,
      sym c.begins_with-2.ensures ∙ c.if-begins_with-2.false,
      sym c.equal.ensures ∙ c.if-equal.false,
      sym c.equal-2.ensures ∙ c.if-equal-2.false,
    )
