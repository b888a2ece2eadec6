-- The test at 2^53 is the definition's.
use Rattle.coordinates.proofs.Totals.{capped_in, capped_out}
use Rattle.std.proofs.Common.{sym}
use Rattle.coordinates.proofs.runs.capped.Goals as goal

pub returns-then-v-gt-MOST_EXACT : goal.returns-then-v-gt-MOST_EXACT
returns-then-v-gt-MOST_EXACT c = sym (capped_out _ c.if-v-gt-MOST_EXACT.true)

pub returns : goal.returns
returns c = sym (capped_in _ c.if-v-gt-MOST_EXACT.false)
