-- Both lengths are tested before a word is cleared, so that a refusal leaves all.
use Rattle.names.proofs.Laws.{open_all, open_few, open_short}
use Rattle.names.proofs.entering.open_table.Goals as goal

pub returns-then-words-lt-TABLE_WORDS : goal.returns-then-words-lt-TABLE_WORDS
returns-then-words-lt-TABLE_WORDS c = open_few _ _ c.if-words-lt-TABLE_WORDS.true

pub returns-then-bytes-lt-TABLE_BYTES : goal.returns-then-bytes-lt-TABLE_BYTES
returns-then-bytes-lt-TABLE_BYTES c = open_short _ _ c.if-words-lt-TABLE_WORDS.false c.if-bytes-lt-TABLE_BYTES.true

pub returns : goal.returns
returns c = open_all _ _ c.if-words-lt-TABLE_WORDS.false c.if-bytes-lt-TABLE_BYTES.false c.clear.ensures
