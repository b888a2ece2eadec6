-- The byte is the text's.
use Rattle.findings.proofs.plans.not_utf8.Goals as goal

pub returns : goal.returns
returns c = rw c.byte_at-byte.ensures
