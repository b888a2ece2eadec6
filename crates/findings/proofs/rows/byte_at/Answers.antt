-- Past the end a byte is 0.
use lib.ListN.{get_or-eq_default}
use mathlib.Core.Path.{sym}
use Rattle.findings.proofs.rows.byte_at.Goals as goal

pub returns-else-i-source : goal.returns-else-i-source
returns-else-i-source c = sym (get_or-eq_default c.args.source.now 0 c.if-i-source.false)
