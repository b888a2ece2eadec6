-- The first word is stored, and each real is put into the part of the words that is still free.
use lib.ListN.{length-set}
use native.Mathlib.Omega.{arith}
use Rattle.laws.proofs.Lent.{length_part}
use Rattle.numbers_words.specs.Words.{joined}
use Rattle.numbers_words.proofs.Words.{second_in, second_room, third_put, length_third}
use Rattle.numbers_words.proofs.put_answer.Goals as goal

pub slice_bounds-put_real-count : goal.slice_bounds-put_real-count
slice_bounds-put_real-count c = simp length-set (omega arith)

pub slice_bounds-put_real-start : goal.slice_bounds-put_real-start
slice_bounds-put_real-start c = simp length-set (omega arith)

pub put_real-requires : goal.put_real-requires
put_real-requires c = rw (length_part _ 1) (simp length-set (omega arith))

pub slice_bounds-put_real-count-2 : goal.slice_bounds-put_real-count-2
slice_bounds-put_real-count-2 c = second_in c.args.words.now c.args.first c.requires _ _ c.put_real.ensures

pub slice_bounds-put_real-start-2 : goal.slice_bounds-put_real-start-2
slice_bounds-put_real-start-2 c = second_in c.args.words.now c.args.first c.requires _ _ c.put_real.ensures

pub put_real-requires-2 : goal.put_real-requires-2
put_real-requires-2 c = second_room c.args.words.now c.args.first c.requires _ _ c.put_real.ensures

pub shape_of-words : goal.shape_of-words
shape_of-words c = length_third c.args.words.now c.args.first
    c.requires _ _ c.put_real.ensures _ _ c.put_real-2.ensures

pub returns : goal.returns
unfolding joined
returns c =
    third_put c.args.words.now c.args.first c.requires _ _
    c.put_real.ensures _ _ c.put_real-2.ensures
