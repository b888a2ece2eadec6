-- Seven stores in a row are one run of stores, from the front on.
use mathlib.Core.Path.{◌∙◌}
use mathlib.Core.List.{[], ◌∷◌}
use native.Mathlib.Omega.{arith}
use lib.ListN.{length-set}
use lib.Seq.{sets-eq}
use Rattle.reader_exports.proofs.Words.{all_written, flag_is}
use Rattle.reader_exports.proofs.position.put_position.Goals as goal

pub bounds-words-4 : goal.bounds-words-4
bounds-words-4 c = simp length-set (omega arith)

pub bounds-words-5 : goal.bounds-words-5
bounds-words-5 c = simp length-set (omega arith)

pub bounds-words-6 : goal.bounds-words-6
bounds-words-6 c = simp length-set (omega arith)

pub returns : goal.returns
returns c =
    let p = c.args.p in
    all_written p c.args.words.now (c.from-second.ensures ∙ flag_is p.spot.second) (c.from-report.ensures ∙ flag_is p.spot.report) (c.from-skip.ensures ∙ flag_is p.spot.skip)
    (sets-eq (p.spot.at ∷ p.spot.last.from ∷ p.spot.last.to ∷ c.from-second.result
    ∷ c.from-report.result ∷ c.from-skip.result ∷ p.depth ∷ []) c.args.words.now 0 (omega arith))
