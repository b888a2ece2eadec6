-- The part from the first free word on is written, if a finding fits there.
use mathlib.Core.Path.{sym}
use Prim.Native.Nat.{◌*◌}
use native.Mathlib.Omega.{arith}
use Rattle.findings_rows.proofs.Laid.{laid_part, laid_at_short}
use Rattle.findings.specs.Finding.{words_of}
use Rattle.findings.proofs.laying.lay_one.Goals as goal

pub returns-then-n-findings : goal.returns-then-n-findings
returns-then-n-findings c =
    let args = c.args in
    let m = args.findings.now in
    laid_part (args.n * 7) (words_of args.f) m (omega arith) c.put.ensures

pub returns-else-n-findings : goal.returns-else-n-findings
returns-else-n-findings c =
    let m = c.args.findings.now in
    sym (laid_at_short (c.args.n * 7) (words_of c.args.f) m (omega arith))
