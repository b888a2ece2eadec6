-- A text of one byte has no prefix; after a `#` the letter decides.
use Rattle.numbers.proofs.Judged.{prefix_short, prefix_mark, prefix_none}
use Rattle.numbers.proofs.prefix.Goals as goal

pub returns-then-t-lt-PREFIX : goal.returns-then-t-lt-PREFIX
returns-then-t-lt-PREFIX c = prefix_short _ c.if-t-lt-PREFIX.true

pub returns-then-t-eq35 : goal.returns-then-t-eq35
returns-then-t-eq35 c = prefix_mark _ _ c.if-t-eq35.true c.radix_mark.ensures

pub returns-else-t-eq35 : goal.returns-else-t-eq35
returns-else-t-eq35 c = prefix_none _ c.if-t-eq35.false
