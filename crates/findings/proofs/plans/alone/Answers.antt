-- One finding is laid, and no row is needed.
use Rattle.findings.proofs.Calls.{call_alone}
use Rattle.findings.proofs.plans.alone.Goals as goal

pub returns : goal.returns
returns c =
    let args = c.args in
    call_alone args.f args.rows.now args.findings.now c.lay.ensures
