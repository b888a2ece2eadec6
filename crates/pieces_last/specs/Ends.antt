-- What the end call answers on words that are known here.
use Rattle.std.specs.Prelude.{ℕ, ◌≤◌, ◌<◌, ◌≡◌, List, length, None, Option, Some}
use Rattle.pieces.specs.declared.Got.{Got}
use Rattle.pieces.specs.declared.Got.TheVariants as got
use Rattle.pieces.specs.declared.State.{State}
use Rattle.pieces.specs.Expected.{longest}
use Rattle.pieces.specs.Calls.{text_after, finished, reply, unless_cut, end_stage}
use Rattle.pieces_lent.specs.declared.Words.{Words}
use Rattle.pieces_lent.specs.declared.Told.{Told}
use Rattle.pieces_lent.specs.Coding.{row, stage_of}
use Rattle.pieces_lent.specs.Calls.{lent, said, end_for}
use Rattle.pieces_quick.specs.Words.{Stands, Ready}
use Rattle.pieces_last.specs.declared.Last.{Last}
use Rattle.pieces_last.specs.declared.Last.TheVariants.{Item, Finished}

-- ---- the words that are known here

-- the words, whether the end was declared or not
abbrev pub with_end : Words → ℕ → Words
with_end w ended =
    record {
      mode = w.mode;
      skip = w.skip;
      ended = ended;
      stage = w.stage;
      start = w.start;
      which = w.which;
      detail = w.detail;
      one = w.one;
      two = w.two;
      at = w.at;
      count = w.count;
      need = w.need;
      low = w.low;
      high = w.high;
      code = w.code;
      from = w.from;
      to = w.to;
      len = w.len;
      depth = w.depth;
    }

-- at its stage the end gives nothing more
abbrev pub Rests : Words → Type 0
Rests w = (s : State) → end_stage s (stage_of (row w.stage w.start w.which w.detail 0 0)) ≡ unless_cut s (reply 0 finished s)

pub record Stays (w : Words) : Type 0 where
  pub stands : Stands w
  pub rests : Rests w

-- words that would be ready for a piece if the end were not declared, or those of a state that holds no item
pub record Closing (w : Words) : Type 0 where
  pub ended : w.ended ≤ 1
  pub ready : Ready (with_end w 0) 0
  pub rests : w.stage ≤ 3 → Rests w

-- such words that hold an item, a buffer and a text memory
pub record Held (w : Words) (buf text : List ℕ) : Type 0 where
  pub closing : Closing w
  pub item : 3 < w.stage
  pub full : length buf ≡ longest
  pub room : longest ≤ length text

-- ---- the answer

-- the words past the last item: between items, the end declared
abbrev pub last_words : Words → ℕ → Words
last_words w depth =
    record {
      mode = w.mode;
      skip = w.skip;
      ended = 1;
      stage = 3;
      start = 0;
      which = 0;
      detail = 0;
      one = 0;
      two = 0;
      at = w.at;
      count = 0;
      need = 0;
      low = 0;
      high = 0;
      code = 0;
      from = w.from;
      to = w.to;
      len = 0;
      depth = depth;
    }

abbrev pub told_last : Words → Got → Told
told_last w g = record { words = w; taken = 0; got = g }

-- what is told is what the end call of `pieces_lent` says of the words
abbrev pub Says : Words → List ℕ → List ℕ → List ℕ → Told → Type 0
Says w buf text then t = (said t buf then ≡ end_for (lent w buf) (length text)) × (then ≡ text_after (end_for (lent w buf) (length text)).what text)

abbrev pub Ends : Words → List ℕ → List ℕ → List ℕ → Option Last → Type 0
Ends w buf text then (Some (Item d r)) = Says w buf text then (told_last (last_words w d) (got.Item r))
Ends w buf text then (Some Finished) = Says w buf text then (told_last (with_end w 1) got.Finished)
Ends w buf text then None = then ≡ text
