-- The four returns are the four arms of `mark_of`.
use native.Mathlib.Omega.{arith}
use mathlib.Core.Path.{sym, ◌∙◌}
use Rattle.names.proofs.Laws.{bounds, mark_far, mark_none, mark_outside, mark_there, party_of}
use Rattle.names.proofs.naming.name_mark.Goals as goal

pub returns-then-not-in_bounds : goal.returns-then-not-in_bounds
returns-then-not-in_bounds c = mark_outside _ _ _ (sym c.in_bounds.ensures ∙ c.if-not-in_bounds.true)

pub returns-then-number-ge-TABLE_NAMES : goal.returns-then-number-ge-TABLE_NAMES
returns-then-number-ge-TABLE_NAMES c = mark_far _ _ _ (sym c.in_bounds.ensures ∙ c.if-not-in_bounds.false) c.if-number-ge-TABLE_NAMES.true

pub overflow_mul-party : goal.overflow_mul-party
overflow_mul-party c = omega (arith, party_of _ c.if-number-ge-TABLE_NAMES.false)

pub word-n-requires : goal.word-n-requires
word-n-requires c = omega (arith, (bounds _ _ (sym c.in_bounds.ensures ∙ c.if-not-in_bounds.false)).words, party_of _ c.if-number-ge-TABLE_NAMES.false)

pub returns-then-n-k : goal.returns-then-n-k
returns-then-n-k c = mark_none _ _ _ (sym c.in_bounds.ensures ∙ c.if-not-in_bounds.false)
    c.if-number-ge-TABLE_NAMES.false c.word-n.ensures c.if-n-k.true

pub returns : goal.returns
returns c = mark_there _ _ _ (sym c.in_bounds.ensures ∙ c.if-not-in_bounds.false)
    c.if-number-ge-TABLE_NAMES.false c.word-n.ensures c.if-n-k.false
