-- Ten stores in a row are one run of stores, from 0 on.
use native.Mathlib.Omega.{arith}
use lib.ListN.{length-set}
use lib.Seq.{sets-eq}
use Rattle.items.specs.Items.{words_of}
use Rattle.meaning.proofs.records.put.Goals as goal

pub bounds-records-1 : goal.bounds-records-1
bounds-records-1 c = simp length-set (omega arith)

pub bounds-records-2 : goal.bounds-records-2
bounds-records-2 c = simp length-set (omega arith)

pub bounds-records-3 : goal.bounds-records-3
bounds-records-3 c = simp length-set (omega arith)

pub bounds-records-4 : goal.bounds-records-4
bounds-records-4 c = simp length-set (omega arith)

pub bounds-records-5 : goal.bounds-records-5
bounds-records-5 c = simp length-set (omega arith)

pub bounds-records-6 : goal.bounds-records-6
bounds-records-6 c = simp length-set (omega arith)

pub bounds-records-7 : goal.bounds-records-7
bounds-records-7 c = simp length-set (omega arith)

pub bounds-records-8 : goal.bounds-records-8
bounds-records-8 c = simp length-set (omega arith)

pub bounds-records-9 : goal.bounds-records-9
bounds-records-9 c = simp length-set (omega arith)

pub shape_of-records : goal.shape_of-records
shape_of-records c = simp length-set

pub returns : goal.returns
returns c = sets-eq (words_of c.args.r) c.args.records.now 0 (omega arith)
