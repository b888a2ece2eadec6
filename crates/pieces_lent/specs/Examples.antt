-- Worked examples: the words after a piece, and words that are the code of no marks. They are theorems: the definitions compute to them.
use Rattle.std.specs.Prelude.{ℕ, ◌≡◌, refl, false, List, [], ◌∷◌, replicate}
use Rattle.laws.specs.Quoted.{code, within}
use Rattle.chars.specs.Encode.{is_scalar, utf8, width, encode, bytes_of, spelled}
use Rattle.chars.specs.Blank.{is_blank}
use Rattle.chars.specs.Machine.{step}
use Rattle.chars.specs.Utf8.{first}
use Rattle.items.specs.Classes.{starts_run, first_of, in_quotes, after_backslash, stops_hex, in_hex}
use Rattle.pieces.specs.Bounds.{is_in_bounds}
use Rattle.pieces.specs.Calls.{What, refused, turn_of, feed_of, piece_of, open_of}
use Rattle.pieces.specs.Expected.{longest}
use Rattle.pieces_lent.specs.declared.Words.{Words}
use Rattle.pieces_lent.specs.declared.LentState.{LentState}
use Rattle.pieces_lent.specs.declared.StageRow.{StageRow}
use Rattle.pieces_lent.specs.Coding.{row, stage_of, standing, coded, narrow, is_same_row, is_code}
use Rattle.pieces_lent.specs.Calls.{lent, piece_for, open_for}

-- a plain state, opened in a buffer of 4,096 bytes
abbrev new : LentState
new = (open_for 0 false (replicate longest 0)).state

abbrev after : List ℕ → Words
after bytes = (piece_for new bytes longest).state.words

-- the words of a plain state, comments kept, outside all brackets, with a stage, the place, the bytes held, and the numbers of a character begun
abbrev words : StageRow → ℕ → ℕ → ℕ → ℕ → ℕ → ℕ → ℕ → Words
words r at len count need low high code =
    record {
      mode = 0;
      skip = 0;
      ended = 0;
      stage = r.stage;
      start = r.start;
      which = r.which;
      detail = r.detail;
      one = r.one;
      two = r.two;
      at = at;
      count = count;
      need = need;
      low = low;
      high = high;
      code = code;
      from = 0;
      to = 0;
      len = len;
      depth = 0;
    }

-- opened: every word is 0
abbrev zeros : Words
zeros = words (row 0 0 0 0 0 0) 0 0 0 0 0 0 0

-- in the digits of a hex escape of a string that starts at 1: what closes it, the backslash's place, and the three bytes before the digits
abbrev in_hex_digits : Words
in_hex_digits = words (row 30 1 0 (code ";") 2 3) 5 4 0 0 0 0 0

-- one byte of a λ: another of 80..BF is to come, and the bits so far are 01110
abbrev in_lambda : Words
in_lambda = words (row 0 0 0 0 0 0) 0 0 1 1 0x80 0xBF 0x0E

-- a word that the stage does not use, and a stage that there is not
abbrev unused : Words
unused = words (row 0 0 0 0 0 1) 0 0 0 0 0 0 0

abbrev no_stage : Words
no_stage = words (row 41 0 0 0 0 0) 0 0 0 0 0 0 0

abbrev refusal : Words → What
refusal w = (piece_for (lent w (replicate longest 0)) (spelled "a") longest).what

computed : (new.words ≡ zeros) × (after (spelled " \"\\x4") ≡ in_hex_digits) × (after (0xCE ∷ []) ≡ in_lambda) × (refusal unused ≡ refused 27 0)
    × (refusal no_stage ≡ refused 27 0)
-- the list only permits the computing
unfolding within is_scalar utf8 width encode bytes_of is_blank step first starts_run first_of in_quotes after_backslash stops_hex in_hex is_in_bounds
    turn_of feed_of piece_of open_of stage_of standing coded narrow is_same_row is_code piece_for open_for
computed = (refl, refl, refl, refl, refl)
