-- The piece calls over slices and numbers. `exports::flat::open` ensures `opened r buf' words' ≡ open_left mode skip buf words`, `exports::flat::piece` that its answer and
-- all memory are `piece_left memory piece`, and `exports::flat::end` the same with `end_left`; `mihadrena_open`, `mihadrena_piece` and `mihadrena_end` ensure the
-- same. `exports_values::put_values` ensures `values' ≡ lay (first ∷ second ∷ []) values`.
use Rattle.std.specs.Prelude.{ℕ, ◌+◌, ◌-◌, ◌≡◌, refl, true, false, List, [], ◌∷◌, replicate}
use Rattle.laws.specs.Quoted.{within}
use Rattle.laws.specs.Texts.{span, starts, begins, same}
use Rattle.chars.specs.Encode.{is_scalar, utf8, width, encode, bytes_of, spelled, lay}
use Rattle.chars.specs.Blank.{is_blank}
use Rattle.chars.specs.Machine.{step}
use Rattle.chars.specs.Utf8.{first, rest, front}
use Rattle.items.specs.Classes.{starts_run, first_of, in_quotes, after_backslash, stops_hex, in_hex, in_trim, in_nest, breaks_word, in_word, stays_run, ends_run, in_run, after_hash, ends_hash, in_hash, in_delim}
use Rattle.items.specs.Meaning.{lookup, words, word_kind, word_means, run_means, escaped, string_text, lined_text, here_text, unescape}
use Rattle.items.specs.Items.{extent_items, record_words}
use Rattle.items.specs.Kinds as kind
use Rattle.pieces.specs.Bounds.{is_in_bounds}
use Rattle.pieces.specs.Calls.{turn_of, feed_of, piece_of, end_of, open_of}
use Rattle.pieces.specs.Expected.{longest}
use Rattle.pieces_promises.specs.Rows.{buffer}
use Rattle.pieces_lent.specs.declared.LentState.{LentState}
use Rattle.pieces_lent.specs.Coding.{stage_of, standing, coded, narrow, is_same_row, is_code}
use Rattle.pieces_lent.specs.Calls.{lent, piece_for, end_for, open_for}
use Rattle.exports.specs.Piece.{listed, opened, open_left, Memory, memory, Left, left, called, piece_left, end_left, state_words}
use Rattle.exports_promises.specs.Lent.{words_with, opening, idle, stopped, new, in_word_a, after_error}

-- slices of a state's lengths, whatever they held
abbrev pub bytes : List ℕ
bytes = replicate longest 7

abbrev pub some_words : List ℕ
some_words = replicate state_words 7

-- the words of a record, whatever they held
abbrev pub some_record : List ℕ
some_record = replicate record_words 7

-- the memory of a call on a state: text memory of 4,096 bytes, just the words of a record, and two values
abbrev pub holding : LentState → Memory
holding s = memory s.buf (listed s.words) bytes some_record (7 ∷ 7 ∷ [])

-- what a call leaves: its answer, the state, the text memory, the record and the two values
abbrev pub leaves : ℕ → LentState → List ℕ → List ℕ → List ℕ → Left
leaves n s text i values = left n (memory s.buf (listed s.words) text i values)

-- "finished" was said; 21 stands, which came at place 5
abbrev pub done : LentState
done = lent (words_with 1 opening 0 0 0 0 0 0) (buffer [])

abbrev pub halted : LentState
halted =
    lent
    (record {
      mode = 0;
      skip = 0;
      ended = 0;
      stage = stopped;
      start = 5;
      which = 21;
      detail = 0;
      one = 0;
      two = 0;
      at = 5;
      count = 0;
      need = 0;
      low = 0;
      high = 0;
      code = 0;
      from = 0;
      to = 0;
      len = 0;
      depth = 0;
    })
    (buffer [])

pub record Rows : Type 0 where
  -- the state is ready: 0, and its bytes and words are written whole, with the choice on comments as asked
  pub opened_kept : open_left 0 false bytes some_words ≡ opened 0 (replicate longest 0) (replicate state_words 0)
  pub opened_skipped : open_left 1 true bytes some_words ≡ opened 0 (replicate longest 0) (1 ∷ 1 ∷ replicate (state_words - 2) 0)
  pub no_mode : open_left 2 false bytes some_words ≡ opened 25 (replicate longest 0) (replicate state_words 0)
  pub no_state : open_left 0 false bytes [] ≡ opened 27 bytes []
  -- an item, two bytes taken, and its record, for which just its words are enough
  pub piece : piece_left (holding new) (spelled "(ab")
      ≡ leaves 10 in_word_a bytes (kind.OpenParen ∷ kind.Round ∷ 0 ∷ 1 ∷ 0 ∷ 1 ∷ 0 ∷ 0 ∷ 0 ∷ 0 ∷ []) (0 ∷ 2 ∷ [])
  -- the words of a state have their order: the error's place is the range that they hold
  pub end_placed_holds : end_left (holding after_error)
      ≡ leaves 10 (lent (words_with 1 idle 0 0 9 1 8 0) after_error.buf) bytes ((kind.first_error + kind.IncompleteString) ∷ 0 ∷ 8 ∷ 9 ∷ 1 ∷ 8 ∷ 0 ∷ 0 ∷ 0 ∷ 0 ∷ []) (0 ∷ 0 ∷ [])
  pub end_record : (end_left (holding after_error)).memory.item ≡ (kind.first_error + kind.IncompleteString) ∷ 0 ∷ 8 ∷ 9 ∷ 1 ∷ 8 ∷ 0 ∷ 0 ∷ 0 ∷ 0 ∷ []
  -- "finished" is 12
  pub finished : end_left (holding new) ≡ leaves 12 done bytes some_record (0 ∷ 0 ∷ [])
  -- a refusal comes with its place
  pub placed : piece_left (holding halted) (spelled "a") ≡ leaves 21 halted bytes some_record (5 ∷ 0 ∷ [])
  -- no room for a record is 22 with 1 and 0, also with one word too few; slices that are no state's 27
  pub no_record : piece_left (memory [] [] [] [] (7 ∷ 7 ∷ [])) [] ≡ left 22 (memory [] [] [] [] (1 ∷ 0 ∷ []))
  pub one_word_short : piece_left (memory [] [] [] (replicate (record_words - 1) 7) (7 ∷ 7 ∷ [])) []
      ≡ left 22 (memory [] [] [] (replicate (record_words - 1) 7) (1 ∷ 0 ∷ []))
  pub no_slices : piece_left (memory [] [] [] some_record (7 ∷ 7 ∷ [])) [] ≡ left 27 (memory [] [] [] some_record (0 ∷ 0 ∷ []))
  -- two values are laid where there is room for both
  pub values : lay (1 ∷ 2 ∷ []) (7 ∷ 7 ∷ []) ≡ 1 ∷ 2 ∷ []
  pub no_values : lay (1 ∷ 2 ∷ []) (7 ∷ []) ≡ 7 ∷ []

pub computed : Rows
-- the list only permits the computing
unfolding open_left called lay within span starts begins same is_scalar utf8 width encode bytes_of is_blank step first rest front starts_run
    first_of in_quotes after_backslash stops_hex in_hex in_trim in_nest breaks_word in_word stays_run ends_run in_run after_hash ends_hash in_hash in_delim
    lookup words word_kind word_means run_means escaped string_text lined_text here_text unescape extent_items is_in_bounds turn_of feed_of piece_of end_of
    open_of stage_of standing coded narrow is_same_row is_code piece_for end_for open_for
computed =
    record {
      opened_kept = refl;
      opened_skipped = refl;
      no_mode = refl;
      no_state = refl;
      piece = refl;
      end_placed_holds = refl;
      end_record = refl;
      finished = refl;
      placed = refl;
      no_record = refl;
      one_word_short = refl;
      no_slices = refl;
      values = refl;
      no_values = refl;
    }
