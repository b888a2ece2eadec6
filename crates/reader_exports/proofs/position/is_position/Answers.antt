-- The tests in the order of the definition: the count of words, the numbers, the words that are yes or no.
use Rattle.reader_exports.proofs.Words.{passed, failed, by_flags, no_position}
use Rattle.reader_exports.proofs.position.is_position.Goals as goal
use Rattle.reader_exports.proofs.position.is_position.Goals.{then-words-eq-READER_WORDS, else-words-eq-READER_WORDS}

pub returns-then-are_at_most : goal.returns-then-are_at_most
returns-then-are_at_most c =
    elim c.if-words-eq-READER_WORDS.branch [
      | then-words-eq-READER_WORDS w ↦
          by_flags c.args.words.now (passed c.args.words.now w.if-words-eq-READER_WORDS.true w.value-is w.are_at_most.ensures)
          c.if-are_at_most.true c.are_at_most-then-are_at_most.ensures
      | else-words-eq-READER_WORDS w ↦
          by_flags c.args.words.now (failed c.args.words.now w.if-words-eq-READER_WORDS.false w.value-is)
          c.if-are_at_most.true c.are_at_most-then-are_at_most.ensures
    ]

pub returns-else-are_at_most : goal.returns-else-are_at_most
returns-else-are_at_most c =
    elim c.if-words-eq-READER_WORDS.branch [
      | then-words-eq-READER_WORDS w ↦
          no_position c.args.words.now (passed c.args.words.now w.if-words-eq-READER_WORDS.true w.value-is w.are_at_most.ensures) c.if-are_at_most.false
      | else-words-eq-READER_WORDS w ↦
          no_position c.args.words.now (failed c.args.words.now w.if-words-eq-READER_WORDS.false w.value-is) c.if-are_at_most.false
    ]
