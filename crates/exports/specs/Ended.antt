-- What the quick path tells at the end of the text, on memory that the caller lends.
use Rattle.std.specs.Prelude.{ℕ, ◌≡◌, List}
use Rattle.pieces.specs.declared.Got.{Got}
use Rattle.pieces.specs.Calls.{text_after}
use Rattle.pieces_calls.specs.Answers.{what_of}
use Rattle.pieces_lent.specs.declared.Words.{Words}
use Rattle.pieces_lent.specs.Calls.{said}
use Rattle.pieces_last.specs.Ends.{told_last}
use Rattle.exports.specs.Piece.{left, gives, memory}

-- the words between items past the last one, with so many brackets open
abbrev pub end_placed : Words → ℕ → Words
end_placed w depth =
    record {
      mode = w.mode;
      skip = w.skip;
      ended = 1;
      stage = 3;
      start = 0;
      which = 0;
      detail = 0;
      one = w.one;
      two = w.two;
      at = w.at;
      count = w.count;
      need = w.need;
      low = w.low;
      high = w.high;
      code = w.code;
      from = w.from;
      to = w.to;
      len = 0;
      depth = depth;
    }

-- the answer, the words, the record and the values are those of what is told with the words v
abbrev pub TellsEnd : Words → Got → List ℕ → List ℕ → List ℕ → List ℕ → List ℕ → List ℕ → ℕ → Type 0
TellsEnd v g words after i put values told n =
    (buf text old : List ℕ)
    → left n (memory buf after (text_after (what_of g text) old) put told) ≡ gives (memory buf words old i values) (said (told_last v g) buf text)
