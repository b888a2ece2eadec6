-- Seven stores in a row are one run of stores, from 0 on.
use native.Mathlib.Omega.{arith}
use lib.ListN.{length-set}
use lib.Seq.{sets-eq}
use Rattle.findings.specs.Finding.{words_of}
use Rattle.findings.proofs.laying.put.Goals as goal

pub bounds-out-1 : goal.bounds-out-1
bounds-out-1 c = simp length-set (omega arith)

pub bounds-out-2 : goal.bounds-out-2
bounds-out-2 c = simp length-set (omega arith)

pub bounds-out-3 : goal.bounds-out-3
bounds-out-3 c = simp length-set (omega arith)

pub bounds-out-4 : goal.bounds-out-4
bounds-out-4 c = simp length-set (omega arith)

pub bounds-out-5 : goal.bounds-out-5
bounds-out-5 c = simp length-set (omega arith)

pub returns : goal.returns
returns c = sets-eq (words_of c.args.f) c.args.out.now 0 (omega arith)
