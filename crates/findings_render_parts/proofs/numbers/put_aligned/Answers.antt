-- Blanks, and the number.
use Rattle.findings_render_parts.specs.Printed.{aligned}
use Rattle.findings_render_parts.proofs.OneByOne.{joined}
use Rattle.findings_render_parts.proofs.numbers.put_aligned.Goals as goal

pub returns : goal.returns
unfolding aligned
returns c =
    joined (rw (c.padding.ensures, c.digit_count.ensures.0) at c.put_run-next.ensures) c.put_number.ensures
