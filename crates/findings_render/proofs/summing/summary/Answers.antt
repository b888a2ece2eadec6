-- Laid from the memory's start on, the bytes are over what was there.
use native.Mathlib.Omega.{arith}
use borrow.Author.Tests.{lt-ltb, le-ltb}
use Rattle.findings_render.specs.Summed.{summed}
use Rattle.findings_render_parts.proofs.OneByOne.{nothing, joined, whole}
use Rattle.findings_render.proofs.summing.summary.Goals as goal

pub returns-then-style-ge-JSON : goal.returns-then-style-ge-JSON
unfolding summed
returns-then-style-ge-JSON c = rw (le-ltb _ _ c.if-style-ge-JSON.true) (whole (omega arith) nothing)

pub returns : goal.returns
unfolding summed
returns c =
    rw (lt-ltb _ _ c.if-style-ge-JSON.false) (whole (omega arith) (joined c.put_more-left.ensures c.put_last.ensures))
