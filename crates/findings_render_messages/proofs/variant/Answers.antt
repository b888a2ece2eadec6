-- By the tests.
use mathlib.Core.Path.{sym, ◌∙◌}
use native.Mathlib.Omega.{arith}
use borrow.Author.Tests.{lt-ltb, le-ltb}
use Rattle.findings_render_messages.specs.Messages.{variant_of}
use Rattle.findings_render_messages.proofs.Worded.{least}
use Rattle.findings_render_messages.proofs.variant.Goals as goal

pub returns-then-is_by_detail : goal.returns-then-is_by_detail
unfolding variant_of
returns-then-is_by_detail c =
    rw (sym c.is_by_detail.ensures ∙ c.if-is_by_detail.true) (c.min.ensures ∙ least _, omega arith)

pub returns-then-not-is_by_second : goal.returns-then-not-is_by_second
unfolding variant_of
returns-then-not-is_by_second c =
    (rw (sym c.is_by_detail.ensures ∙ c.if-is_by_detail.false, sym c.is_by_second.ensures ∙ c.if-not-is_by_second.true), omega arith)

pub returns-then-t : goal.returns-then-t
unfolding variant_of
returns-then-t c =
    (rw (sym c.is_by_detail.ensures ∙ c.if-is_by_detail.false, sym c.is_by_second.ensures ∙ c.if-not-is_by_second.false, lt-ltb _ _ c.if-t.true), omega arith)

pub returns-then-t-gt1 : goal.returns-then-t-gt1
unfolding variant_of
returns-then-t-gt1 c = (
  rw (
    sym c.is_by_detail.ensures ∙ c.if-is_by_detail.false,
    sym c.is_by_second.ensures ∙ c.if-not-is_by_second.false,
    le-ltb _ _ c.if-t.false,
    lt-ltb _ _ c.if-t-gt1.true,
  ),
  omega arith,
)

pub returns-else-t-gt1 : goal.returns-else-t-gt1
unfolding variant_of
returns-else-t-gt1 c = (
  rw (
    sym c.is_by_detail.ensures ∙ c.if-is_by_detail.false,
    sym c.is_by_second.ensures ∙ c.if-not-is_by_second.false,
    le-ltb _ _ c.if-t.false,
    le-ltb _ _ c.if-t-gt1.false,
  ),
  omega arith,
)
