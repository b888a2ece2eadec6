-- As many digits as the number has.
use Rattle.findings_render_parts.specs.Printed.{number}
use Rattle.findings_render_parts.proofs.numbers.put_number.Goals as goal

pub returns : goal.returns
unfolding number
returns c =
    rw c.digit_count.ensures.0 at c.put_digits.ensures
