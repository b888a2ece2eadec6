-- One store or two.
use mathlib.Core.Path.{sym, ◌∙◌}
use Rattle.findings_render_parts.proofs.OneByOne.{one_plain, one_marked}
use Rattle.findings_render_parts.proofs.laying.put_byte.Goals as goal

pub returns-then-is_marked : goal.returns-then-is_marked
returns-then-is_marked c =
    one_marked (sym c.is_marked.ensures ∙ c.if-is_marked.true) c.put_raw-next.ensures.0 c.put_raw-next.ensures.1 c.put_raw.ensures.0
    (rw c.letter_of.ensures at c.put_raw.ensures.1)

pub returns : goal.returns
returns c =
    one_plain (sym c.is_marked.ensures ∙ c.if-is_marked.false) c.put_raw-2.ensures.0 c.put_raw-2.ensures.1
