-- What the quick path tells at a spot, on memory that the caller lends.
use Rattle.std.specs.Prelude.{ℕ, ◌≡◌, List}
use Rattle.pieces.specs.declared.Got.{Got}
use Rattle.pieces.specs.Calls.{text_after}
use Rattle.pieces_calls.specs.Answers.{what_of}
use Rattle.pieces_lent.specs.declared.Words.{Words}
use Rattle.pieces_lent.specs.Calls.{said}
use Rattle.pieces_spots.specs.declared.PieceSpot.{PieceSpot}
use Rattle.pieces_quick.specs.Words.{Ready}
use Rattle.pieces_quick.specs.Gives.{told_at}
use Rattle.exports.specs.Piece.{words_in, left, gives, memory}

-- the words with a spot and how many brackets are open in place of theirs
abbrev pub placed : Words → PieceSpot → ℕ → Words
placed w s depth =
    record {
      mode = w.mode;
      skip = w.skip;
      ended = w.ended;
      stage = s.stage;
      start = s.start;
      which = s.which;
      detail = s.detail;
      one = w.one;
      two = w.two;
      at = s.at;
      count = w.count;
      need = w.need;
      low = w.low;
      high = w.high;
      code = w.code;
      from = w.from;
      to = w.to;
      len = s.len;
      depth = depth;
    }

-- the answer, the words, the record and the values are those of what is told at the spot, where the words before are ready
abbrev pub Tells : PieceSpot → ℕ → Got → List ℕ → List ℕ → List ℕ → List ℕ → List ℕ → List ℕ → ℕ → Type 0
Tells s depth g words after i put values told n =
    (w : Words) (count : ℕ) → Ready w count → w ≡ words_in words → (buf text old : List ℕ)
    → left n (memory buf after (text_after (what_of g text) old) put told) ≡ gives (memory buf words old i values) (said (told_at w s depth g) buf text)
