-- The tests of `quote_kind` in its order.
use mathlib.Core.Path.{sym, ◌∙◌}
use Rattle.chars.specs.Encode.{utf8, bytes_of}
use Rattle.items.specs.Readers.{quote_kind}
use Rattle.steps.proofs.hash.quote_kind.Goals as goal

pub returns-then-equal : goal.returns-then-equal
unfolding quote_kind bytes_of utf8
returns-then-equal c = simp (sym c.equal.ensures ∙ c.if-equal.true, c.decided.ensures)

pub returns-then-equal-2 : goal.returns-then-equal-2
unfolding quote_kind bytes_of utf8
returns-then-equal-2 c = simp (
  sym c.equal.ensures ∙ c.if-equal.false,
  sym c.equal-2.ensures ∙ c.if-equal-2.true,
  c.decided-then-equal-2.ensures,
)

pub returns-then-equal-3 : goal.returns-then-equal-3
unfolding quote_kind bytes_of utf8
returns-then-equal-3 c =
    simp (
      sym c.equal.ensures ∙ c.if-equal.false,
      sym c.equal-2.ensures ∙ c.if-equal-2.false,
      sym c.equal-3.ensures ∙ c.if-equal-3.true,
      c.decided-then-equal-3.ensures,
    )

pub returns-then-equal-4 : goal.returns-then-equal-4
unfolding quote_kind bytes_of utf8
returns-then-equal-4 c =
    simp (
      sym c.equal.ensures ∙ c.if-equal.false,
      sym c.equal-2.ensures ∙ c.if-equal-2.false,
      sym c.equal-3.ensures ∙ c.if-equal-3.false,
      sym c.equal-4.ensures ∙ c.if-equal-4.true,
      c.decided-then-equal-4.ensures,
    )

pub returns : goal.returns
unfolding quote_kind bytes_of utf8
returns c =
    simp (
      sym c.equal.ensures ∙ c.if-equal.false,
      sym c.equal-2.ensures ∙ c.if-equal-2.false,
      sym c.equal-3.ensures ∙ c.if-equal-3.false,
      sym c.equal-4.ensures ∙ c.if-equal-4.false,
    )
