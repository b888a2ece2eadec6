-- The reader's two calls on memory that the caller lends: what each answers, and what every lent memory then holds.
use Rattle.std.specs.Prelude.{ℕ, Bool, ◌&&◌, List, [], ◌∷◌, length, eqb, leb, if◌then◌else◌}
use Rattle.laws.specs.Lent.{written}
use Rattle.refusal.specs.Refusals as refusal
use Rattle.chars.specs.Encode.{lay}
use Rattle.items.specs.Items.{record_words}
use Rattle.lexer.specs.Opening.{Opening, opened, refused, open_of}
use Rattle.lexer.specs.Answers.{Reply, item, finished, refuses, Replied, next_of}
use Rattle.reader_exports.specs.Words.{reader_words, listed, is_position, position_in}

-- ---- opening

-- an answer, the position's words after it, and the values
pub record Started : Type 0 where
  pub answer : ℕ
  pub words : List ℕ
  pub values : List ℕ

abbrev pub started : ℕ → List ℕ → List ℕ → Started
started n words values = record { answer = n; words = words; values = values }

-- two values at the front, where there is room for both
abbrev pub told : ℕ → ℕ → List ℕ → List ℕ
told a b values = lay (a ∷ b ∷ []) values

-- `served` and the position's words; or 01's number of the refusal and what it comes with, and the words stay
abbrev pub opens : Opening → List ℕ → List ℕ → Started
opens (opened p) words values = started refusal.served (written (listed p) words) (told 0 0 values)
opens (refused n a) words values = started n words (told a 0 values)

-- 27 where there are not the words of a position; then 01: "it opens under 25, 20, 21"
unfoldable pub open_left : List ℕ → ℕ → Bool → List ℕ → List ℕ → Started
open_left source mode skip words values =
    if eqb (length words) reader_words then opens (open_of source mode skip) words values else started refusal.out_of_bounds words (told 0 0 values)

-- ---- one item

-- what a call is lent beside the source: the position's words, the text memory, an item's record, two values
pub record Memory : Type 0 where
  pub words : List ℕ
  pub text : List ℕ
  pub item : List ℕ
  pub values : List ℕ

abbrev pub memory : List ℕ → List ℕ → List ℕ → List ℕ → Memory
memory words text i values = record { words = words; text = text; item = i; values = values }

-- what a call leaves: its answer, and the memory after it
pub record Left : Type 0 where
  pub answer : ℕ
  pub memory : Memory

abbrev pub left : ℕ → Memory → Left
left n m = record { answer = n; memory = m }

-- `item` with an item's record and the position after it; `finished` at the end, and 01's number of a refusal with its two values: the
-- position stays
abbrev pub gives : Memory → Reply → List ℕ → Left
gives m (item r p) text = left refusal.item (memory (written (listed p) m.words) text (written r m.item) (told 0 0 m.values))
gives m finished text = left refusal.finished (memory m.words text m.item (told 0 0 m.values))
gives m (refuses n a b) text = left n (memory m.words text m.item (told a b m.values))

abbrev pub given : Memory → Replied → Left
given m r = gives m r.reply r.text

-- everything as it was but the two values
abbrev pub stays : Memory → ℕ → ℕ → ℕ → Left
stays m n a b = left n (memory m.words m.text m.item (told a b m.values))

-- room for a record and for two values
abbrev pub is_room : ℕ → ℕ → Bool
is_room i values = leb record_words i && leb 2 values

-- 22 with one item needed, where there is no room for what is given; 27 where the words are no position's; then the item there
unfoldable pub next_left : List ℕ → Memory → Left
next_left source m =
    if is_room (length m.item) (length m.values)
    then (if is_position m.words then given m (next_of source (position_in m.words) m.text) else stays m refusal.out_of_bounds 0 0)
    else stays m refusal.too_few 1 0
