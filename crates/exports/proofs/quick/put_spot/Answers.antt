-- Seven stores put the spot in place of that before (Spotted).
use native.Mathlib.Omega.{arith}
use lib.ListN.{length-set}
use Rattle.exports.proofs.Spotted.{spot_stored}
use Rattle.exports.proofs.quick.put_spot.Goals as goal

pub bounds-words-9 : goal.bounds-words-9
bounds-words-9 c = simp length-set (omega arith)

pub bounds-words-17 : goal.bounds-words-17
bounds-words-17 c = simp length-set (omega arith)

pub bounds-words-18 : goal.bounds-words-18
bounds-words-18 c = simp length-set (omega arith)

pub returns : goal.returns
returns c = spot_stored c.args.words.now c.requires c.args.s c.args.depth
