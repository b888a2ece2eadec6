-- Calls on a state of numbers. `pieces_lent::opening::open` ensures `freshly r ≡ worded (open_of mode skip)`, `calls::open_words` that
-- `said r buf' [] ≡ open_for mode skip buf`, `calls::piece_words` and `lending::piece_mut` that what they answer and leave is
-- `piece_for state piece (length text)`, and the end calls the same with `end_for`.
use Rattle.std.specs.Prelude.{ℕ, ◌≡◌, refl, false, [], ◌∷◌, replicate}
use Rattle.laws.specs.Quoted.{within}
use Rattle.laws.specs.Texts.{span, starts, begins, same}
use Rattle.chars.specs.Encode.{is_scalar, utf8, width, encode, bytes_of, spelled}
use Rattle.chars.specs.Blank.{is_blank}
use Rattle.chars.specs.Machine.{step}
use Rattle.chars.specs.Utf8.{first, rest, front}
use Rattle.items.specs.Classes.{starts_run, first_of, in_quotes, after_backslash, stops_hex, in_hex, in_trim, in_nest, breaks_word, in_word, stays_run, ends_run, in_run, after_hash, ends_hash, in_hash, in_delim}
use Rattle.digits.specs.Hex.{hex_digits, hex_after_plus, hex_value}
use Rattle.digits.specs.Digits.{digit_of}
use Rattle.items.specs.Readers.{scalar_of}
use Rattle.items.specs.Meaning.{lookup, words, word_kind, word_means, run_means, escaped, string_text, lined_text, here_text, unescape}
use Rattle.items.specs.Items.{extent_items}
use Rattle.items.specs.Kinds as kind
use Rattle.pieces.specs.Bounds.{is_in_bounds}
use Rattle.pieces.specs.Calls.{What, more, refused, turn_of, feed_of, piece_of, end_of, open_of}
use Rattle.pieces.specs.Expected.{longest}
use Rattle.pieces_promises.specs.Rows.{bare, error, texted, deep, buffer}
use Rattle.pieces_lent.specs.declared.Words.{Words}
use Rattle.pieces_lent.specs.declared.LentState.{LentState}
use Rattle.pieces_lent.specs.Coding.{stage_of, standing, coded, narrow, is_same_row, is_code}
use Rattle.pieces_lent.specs.Calls.{Said, lent, piece_for, end_for, open_for}

-- ---- states, plain, comments kept, between two characters, outside all brackets

-- the numbers of the stages that stand here (docs/STATE.md), and one that there is not
abbrev pub opening : ℕ
opening = 0

abbrev pub idle : ℕ
idle = 3

abbrev pub stopped : ℕ
stopped = 6

abbrev pub in_word_stage : ℕ
in_word_stage = 14

abbrev pub quoted : ℕ
quoted = 24

abbrev pub no_stage : ℕ
no_stage = 41

-- whether the end is declared, the stage, where its item starts, its second word, the place, the last error range, and how many bytes are held
abbrev pub words_with : ℕ → ℕ → ℕ → ℕ → ℕ → ℕ → ℕ → ℕ → Words
words_with e stage start two at from to len =
    record {
      mode = 0;
      skip = 0;
      ended = e;
      stage = stage;
      start = start;
      which = 0;
      detail = 0;
      one = 0;
      two = two;
      at = at;
      count = 0;
      need = 0;
      low = 0;
      high = 0;
      code = 0;
      from = from;
      to = to;
      len = len;
      depth = 0;
    }

-- the same words with n brackets open
abbrev pub in_brackets : ℕ → Words → Words
in_brackets n w =
    record {
      mode = w.mode;
      skip = w.skip;
      ended = w.ended;
      stage = w.stage;
      start = w.start;
      which = w.which;
      detail = w.detail;
      one = w.one;
      two = w.two;
      at = w.at;
      count = w.count;
      need = w.need;
      low = w.low;
      high = w.high;
      code = w.code;
      from = w.from;
      to = w.to;
      len = w.len;
      depth = n;
    }

abbrev pub zeros : Words
zeros = words_with 0 opening 0 0 0 0 0 0

abbrev pub new : LentState
new = lent zeros (buffer [])

-- "(a" was taken, and the bracket given
abbrev pub in_word_a : LentState
in_word_a = lent (in_brackets 1 (words_with 0 in_word_stage 1 0 2 0 0 1)) (buffer (spelled "a"))

-- an error was given, and its range stands
abbrev pub after_error : LentState
after_error = lent (words_with 0 quoted 8 0 9 1 8 1) (buffer (spelled "\"\\xD800;"))

-- a word that the stage does not use is not 0; a stage that there is not
abbrev pub unused : LentState
unused = lent (words_with 0 opening 0 1 0 0 0 0) (buffer [])

abbrev pub unknown : LentState
unknown = lent (words_with 0 no_stage 0 0 0 0 0 0) (buffer [])

-- one bracket open before any byte was read, and a depth of 2 to the power of 32
abbrev pub too_deep : LentState
too_deep = lent (in_brackets 1 zeros) (buffer [])

abbrev pub no_depth : LentState
no_depth = lent (in_brackets 4294967296 zeros) (buffer [])

abbrev pub saying : ℕ → What → LentState → Said
saying n w s = record { taken = n; what = w; state = s }

-- ---- the rows

pub record Rows : Type 0 where
  -- mode 2 is not opened: 25, and a plain state, every byte of whose buffer is 0
  pub no_mode : open_for 2 false (replicate longest 7) ≡ saying 0 (refused 25 2) new
  pub opened : open_for 0 false (replicate longest 7) ≡ saying 0 more new
  -- the bytes taken are told, the state is the next one, and the end is not declared
  pub piece : piece_for new (spelled "(ab") longest ≡ saying 2 (bare kind.OpenParen kind.Round 0 1) in_word_a
  -- the last error range is among the words
  pub ranged : piece_for new (spelled "\"\\xD800;\"") longest ≡ saying 9 (error kind.InvalidHexCodePoint 0xD800 0 8 1 8) after_error
  -- the end is declared
  pub end : end_for in_word_a longest ≡ saying 0 (deep 1 (texted kind.Identifier 1 2 "a")) (lent (in_brackets 1 (words_with 1 idle 0 0 2 0 0 0)) (buffer (spelled "a")))
  pub end_no_room : end_for in_word_a 4095 ≡ saying 0 (refused 24 0) in_word_a
  -- words that are the code of no marks are 27, and stay
  pub unused_word : piece_for unused (spelled "a") longest ≡ saying 0 (refused 27 0) unused
  pub unknown_stage : piece_for unknown (spelled "a") longest ≡ saying 0 (refused 27 0) unknown
  -- so are more brackets open than bytes were read, and a depth that no word of a record holds
  pub too_deep_holds : piece_for too_deep (spelled "a") longest ≡ saying 0 (refused 27 0) too_deep
  pub no_depth_holds : piece_for no_depth (spelled "a") longest ≡ saying 0 (refused 27 0) no_depth
  pub unknown_stage_end : end_for unknown longest ≡ saying 0 (refused 27 0) unknown

pub computed : Rows
-- the list only permits the computing
unfolding within span starts begins same is_scalar utf8 width encode bytes_of is_blank step first rest front digit_of hex_digits hex_after_plus
    hex_value starts_run first_of in_quotes after_backslash stops_hex in_hex in_trim in_nest breaks_word in_word stays_run ends_run in_run after_hash
    ends_hash in_hash in_delim scalar_of lookup words word_kind word_means run_means escaped string_text lined_text here_text unescape extent_items
    is_in_bounds turn_of feed_of piece_of end_of open_of stage_of standing coded narrow is_same_row is_code piece_for end_for open_for
computed =
    record {
      no_mode = refl;
      opened = refl;
      piece = refl;
      ranged = refl;
      end = refl;
      end_no_room = refl;
      unused_word = refl;
      unknown_stage = refl;
      too_deep_holds = refl;
      no_depth_holds = refl;
      unknown_stage_end = refl;
    }
