-- A row that does not fit changes nothing; one that fits is written into the rest of the memory.
use native.Mathlib.Omega.{arith}
use mathlib.Core.Path.{sym}
use Rattle.items.specs.Items.{words_of}
use Rattle.findings_rows.proofs.Laid.{laid_at_short, laid_part}
use Rattle.findings_rows.proofs.lay.Goals as goal

pub returns-then-words-lt-RECORD_WORDS : goal.returns-then-words-lt-RECORD_WORDS
returns-then-words-lt-RECORD_WORDS c =
    sym (laid_at_short c.args.w (words_of c.args.row) c.args.words.now (omega arith))

pub returns-then-words-w : goal.returns-then-words-w
returns-then-words-w c =
    sym (laid_at_short c.args.w (words_of c.args.row) c.args.words.now (omega arith))

pub returns : goal.returns
returns c =
    laid_part c.args.w (words_of c.args.row) c.args.words.now (omega (arith, c.if-words-w.false, c.if-words-lt-RECORD_WORDS.false)) c.put.ensures
