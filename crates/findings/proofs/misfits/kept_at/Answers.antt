-- Past the last depth nothing is kept.
use lib.ListN.{get_or-eq_default}
use mathlib.Core.Path.{sym}
use Rattle.findings.proofs.misfits.kept_at.Goals as goal

pub returns-else-d-kept : goal.returns-else-d-kept
returns-else-d-kept c = sym (get_or-eq_default c.args.kept.now 0 c.if-d-kept.false)
