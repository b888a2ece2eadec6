-- The byte at the place decides.
use Rattle.numbers.proofs.RealParts.{no_digit_past, no_digit_here}
use Rattle.numbers.proofs.reals.no_digit_at.Goals as goal

pub returns-then-t-from : goal.returns-then-t-from
returns-then-t-from c = no_digit_past _ _ _ c.if-t-from.true

pub returns : goal.returns
returns c = no_digit_here _ _ _ c.if-t-from.false _ c.digit.ensures
