-- Each way the tests go is a way that the part lies in the source.
use Rattle.findings.proofs.Searches.{part_back, part_over, part_past}
use Rattle.laws.proofs.Lent.{part_rest}
use mathlib.Core.Path.{◌∙◌}
use native.Mathlib.Omega.{arith}
use Rattle.findings.proofs.rows.part.Goals as goal

pub returns-then-b-a : goal.returns-then-b-a
returns-then-b-a c = part_back _ _ _ c.if-b-a.true

pub returns-then-a-source : goal.returns-then-a-source
returns-then-a-source c =
    let args = c.args in
    part_rest args.source.now args.a ∙ part_over args.source.now args.a args.b (omega arith)

pub returns : goal.returns
returns c =
    let args = c.args in
    part_past args.source.now args.a args.b (omega arith)
