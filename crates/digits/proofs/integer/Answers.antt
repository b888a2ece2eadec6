-- The sign, and after it the digits.
use Rattle.digits.proofs.Integers.{integer_is}
use Rattle.digits.proofs.integer.Goals as goal

pub returns : goal.returns
returns c = integer_is _ _ _ _ _ _ c.starts_at-neg.ensures c.sign_end-a.ensures c.whole.ensures
