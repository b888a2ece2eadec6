-- With another count of words nothing is called; else what the lexer's opening answers is told.
use Rattle.reader_exports.proofs.Left.{no_words, open_so}
use Rattle.reader_exports.proofs.mihadrena_reader_open.Goals as goal

pub returns-then-position-ne-READER_WORDS : goal.returns-then-position-ne-READER_WORDS
returns-then-position-ne-READER_WORDS c = no_words _ _ _ _ _ c.if-position-ne-READER_WORDS.true c.put_values.ensures

pub returns : goal.returns
returns c =
    open_so _ _ _ _ _ c.if-position-ne-READER_WORDS.false c.open-answer.ensures c.tell_open.ensures
