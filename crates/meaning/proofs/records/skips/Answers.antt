-- Only where comments are skipped is the kind asked for.
use Rattle.meaning.proofs.records.skips.Goals as goal

pub returns-then-skip : goal.returns-then-skip
returns-then-skip c = rw c.if-skip.true

pub returns : goal.returns
returns c = rw c.if-skip.false
