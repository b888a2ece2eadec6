-- By what it is.
use native.Mathlib.Nat.{sub-zero}
use borrow.Author.Tests.{lt-ltb, le-ltb}
use Rattle.findings_render.specs.Json.{name_one}
use Rattle.findings_render_parts.proofs.OneByOne.{joined, as_laid, as_quoted}
use Rattle.findings_render_parts.proofs.Walks.{no_byte}
use Rattle.findings_render.proofs.json.NameWalker.put_one.Goals as goal

pub returns-in-AsByte : goal.returns-in-AsByte
unfolding name_one
returns-in-AsByte c = rw c.in-AsByte.is c.put.ensures

pub returns-in_default : goal.returns-in_default
unfolding name_one
returns-in_default c =
    rw (no_byte _ c.in_default.not-AsByte, lt-ltb _ _ c.if-u-lt-CONTROL_END.true) (joined c.put-begun.ensures c.put_digits.ensures)

pub returns-in_default-2 : goal.returns-in_default-2
unfolding name_one
returns-in_default-2 c =
    rw (no_byte _ c.in_default.not-AsByte, le-ltb _ _ c.if-u-lt-CONTROL_END.false)
    (as_quoted (as_laid (rw sub-zero at c.part.ensures) c.put-in_default-2.ensures))
