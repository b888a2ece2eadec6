-- By the test.
use borrow.Author.Tests.{lt-ltb, le-ltb}
use Rattle.findings_render_parts.specs.Printed.{digit}
use Rattle.findings_render_parts.proofs.numbers.digit_byte.Goals as goal

pub returns-then-d-lt10 : goal.returns-then-d-lt10
unfolding digit
returns-then-d-lt10 c = rw (lt-ltb c.args.d 10 c.if-d-lt10.true)

pub returns-else-d-lt10 : goal.returns-else-d-lt10
unfolding digit
returns-else-d-lt10 c = rw (le-ltb c.args.d 10 c.if-d-lt10.false)
