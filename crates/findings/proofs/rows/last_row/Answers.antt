-- No row is before the first.
use mathlib.Core.Path.{◌≡◌, ap, ◌∙◌}
use Prim.Native.Nat.{◌/◌, ◌-◌}
use native.Mathlib.Omega.{arith}
use lib.ListN.{length}
use Rattle.findings.specs.Rows.{row_at}
use Rattle.findings.proofs.rows.last_row.Goals as goal

pub returns-then-count-eq0 : goal.returns-then-count-eq0
returns-then-count-eq0 c =
    let args = c.args in
    let rows = args.rows.now in let z : 0 ≡ length rows / 10 - 1 = omega arith in c.row_at.ensures ∙ ap (row_at rows) z
