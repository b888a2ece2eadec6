-- With too few words nothing is written; else the words are put, and there are as many as were asked for.
use Rattle.numbers_words.proofs.Words.{too_few, served}
use Rattle.numbers_words.proofs.tell_served.Goals as goal

pub returns-then-words-lt-NUMBER_WORDS : goal.returns-then-words-lt-NUMBER_WORDS
returns-then-words-lt-NUMBER_WORDS c = too_few _ _ _ _ _ c.if-words-lt-NUMBER_WORDS.true

pub returns : goal.returns
returns c = served _ _ _ _ _ c.if-words-lt-NUMBER_WORDS.false c.put_answer.ensures
