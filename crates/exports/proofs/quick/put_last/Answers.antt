-- Seven stores put the reader past the last item (Ended).
use native.Mathlib.Omega.{arith}
use lib.ListN.{length-set}
use Rattle.exports.proofs.Ended.{last_stored}
use Rattle.exports.proofs.quick.put_last.Goals as goal

pub bounds-words-6 : goal.bounds-words-6
bounds-words-6 c = simp length-set (omega arith)

pub bounds-words-17 : goal.bounds-words-17
bounds-words-17 c = simp length-set (omega arith)

pub bounds-words-18 : goal.bounds-words-18
bounds-words-18 c = simp length-set (omega arith)

pub returns : goal.returns
returns c = last_stored c.args.words.now c.requires c.args.depth
