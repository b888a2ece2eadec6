-- The three stores are those of `new_words`.
use native.Mathlib.Omega.{arith}
use lib.ListN.{length-set}
use Rattle.names.proofs.Laws.{put_words}
use Rattle.names.proofs.entering.put.Goals as goal

pub bounds-words-base-2 : goal.bounds-words-base-2
bounds-words-base-2 c = simp length-set (omega arith)

pub bounds-words-base-3 : goal.bounds-words-base-3
bounds-words-base-3 c = simp length-set (omega arith)

pub returns : goal.returns
returns c = put_words _ _ _ _ _ c.requires.n_value c.requires.from_value
