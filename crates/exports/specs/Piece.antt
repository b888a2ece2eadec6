-- The piece calls on memory that the caller lends: the state's bytes and words, the text memory, an item's record and two values.
use Rattle.std.specs.Prelude.{ℕ, Bool, ◌&&◌, List, [], ◌∷◌, length, get_or, eqb, leb, if◌then◌else◌}
use Rattle.laws.specs.Lent.{written}
use Rattle.refusal.specs.Refusals as refusal
use Rattle.chars.specs.Encode.{lay}
use Rattle.items.specs.Items.{record_words}
use Rattle.pieces.specs.Expected.{longest}
use Rattle.pieces.specs.Calls.{What, item, more, finished, refused, text_after}
use Rattle.pieces_lent.specs.declared.Words.{Words}
use Rattle.pieces_lent.specs.declared.LentState.{LentState}
use Rattle.pieces_lent.specs.Calls.{Said, lent, open_for, piece_for, end_for}

-- the words of a state as they stand in memory, docs/STATE.md
abbrev pub listed : Words → List ℕ
listed w =
    w.mode ∷ w.skip ∷ w.ended ∷ w.stage ∷ w.start ∷ w.which ∷ w.detail ∷ w.one ∷ w.two ∷ w.at ∷ w.count ∷ w.need ∷ w.low ∷ w.high ∷ w.code ∷ w.from ∷ w.to ∷ w.len ∷ w.depth ∷ []

abbrev pub words_in : List ℕ → Words
words_in l =
    record {
      mode = get_or l 0 0;
      skip = get_or l 1 0;
      ended = get_or l 2 0;
      stage = get_or l 3 0;
      start = get_or l 4 0;
      which = get_or l 5 0;
      detail = get_or l 6 0;
      one = get_or l 7 0;
      two = get_or l 8 0;
      at = get_or l 9 0;
      count = get_or l 10 0;
      need = get_or l 11 0;
      low = get_or l 12 0;
      high = get_or l 13 0;
      code = get_or l 14 0;
      from = get_or l 15 0;
      to = get_or l 16 0;
      len = get_or l 17 0;
      depth = get_or l 18 0;
    }

abbrev pub state_words : ℕ
state_words = 19

-- how many bytes and words are a state's
abbrev pub is_a_state : ℕ → ℕ → Bool
is_a_state bytes words = eqb bytes longest && eqb words state_words

-- ---- opening

pub record Opened : Type 0 where
  pub answer : ℕ
  pub buf : List ℕ
  pub words : List ℕ

abbrev pub opened : ℕ → List ℕ → List ℕ → Opened
opened n buf words = record { answer = n; buf = buf; words = words }

-- `served` for a state that is ready, else 01's number of the refusal
abbrev pub start_number : What → ℕ
start_number (item g) = refusal.served
start_number more = refusal.served
start_number finished = refusal.served
start_number (refused n p) = n

abbrev pub opens : Said → List ℕ → Opened
opens s words = opened (start_number s.what) s.state.buf (written (listed s.state.words) words)

unfoldable pub open_left : ℕ → Bool → List ℕ → List ℕ → Opened
open_left mode skip buf words = if is_a_state (length buf) (length words) then opens (open_for mode skip buf) words else opened refusal.out_of_bounds buf words

-- ---- a piece, and the end

-- what a call is lent beside the piece: the state's bytes and words, the text memory, an item's record, two values
pub record Memory : Type 0 where
  pub buf : List ℕ
  pub words : List ℕ
  pub text : List ℕ
  pub item : List ℕ
  pub values : List ℕ

abbrev pub memory : List ℕ → List ℕ → List ℕ → List ℕ → List ℕ → Memory
memory buf words text i values = record { buf = buf; words = words; text = text; item = i; values = values }

-- what a call leaves: its answer, and the memory after it
pub record Left : Type 0 where
  pub answer : ℕ
  pub memory : Memory

abbrev pub left : ℕ → Memory → Left
left n m = record { answer = n; memory = m }

-- what is given as a number: an item, "more", "finished", else 01's number of the refusal
abbrev pub what_number : What → ℕ
what_number (item g) = refusal.item
what_number more = refusal.more
what_number finished = refusal.finished
what_number (refused n p) = n

-- the place that a refusal comes with
abbrev pub what_place : What → ℕ
what_place (item g) = 0
what_place more = 0
what_place finished = 0
what_place (refused n p) = p

-- only an item writes its record
abbrev pub record_after : What → List ℕ → List ℕ
record_after (item g) old = written g.words old
record_after more old = old
record_after finished old = old
record_after (refused n p) old = old

abbrev pub gives : Memory → Said → Left
gives m s =
    left (what_number s.what)
    (memory s.state.buf (written (listed s.state.words) m.words) (text_after s.what m.text) (record_after s.what m.item)
    (lay (what_place s.what ∷ s.taken ∷ []) m.values))

-- everything as it was but the two values, where there is room for both
abbrev pub refuses : Memory → ℕ → ℕ → ℕ → Left
refuses m n a b = left n (memory m.buf m.words m.text m.item (lay (a ∷ b ∷ []) m.values))

-- room for a record and for two values
abbrev pub is_room : ℕ → ℕ → Bool
is_room i values = leb record_words i && leb 2 values

-- 22, with one record needed and no byte taken, where there is no room for what is given; 27 where there are not the bytes and words of a
-- state; then the call
unfoldable pub called : Memory → (LentState → Said) → Left
called m call =
    if is_room (length m.item) (length m.values)
    then (if is_a_state (length m.buf) (length m.words) then gives m (call (lent (words_in m.words) m.buf)) else refuses m refusal.out_of_bounds 0 0)
    else refuses m refusal.too_few 1 0

abbrev pub piece_left : Memory → List ℕ → Left
piece_left m piece = called m (λ s. piece_for s piece (length m.text))

abbrev pub end_left : Memory → Left
end_left m = called m (λ s. end_for s (length m.text))
