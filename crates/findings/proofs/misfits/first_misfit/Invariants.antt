use Rattle.findings.proofs.MisfitPass.{Passing}
use Rattle.findings.proofs.misfits.first_misfit.Given as goal

abbrev pub invariant-loop-k : goal.invariant-loop-k
invariant-loop-k l = Passing l.source l.rows l.at l.line l.starts l.offsets l.k
