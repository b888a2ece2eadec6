-- There are digits and nothing else exactly if the run of digits is not empty and ends where the text ends.
use Rattle.digits.proofs.Digits.{uinteger_past, uinteger_run}
use Rattle.digits.proofs.unsigned.Goals as goal

pub returns-then-t-from : goal.returns-then-t-from
returns-then-t-from c = uinteger_past _ _ _ c.if-t-from.true

pub returns : goal.returns
returns c = uinteger_run _ _ _ _ c.if-t-from.false c.run_end-end.ensures
