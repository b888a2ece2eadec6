-- A piece call in report mode: `calls::piece` ensures that its answer is `piece_of state piece (length text)`, `calls::end` the same with
-- `end_of`; for C `mihadrena_piece` and `mihadrena_end` that their answer and all memory are `piece_left` and `end_left`.
use Rattle.std.specs.Prelude.{ℕ, ◌+◌, ◌-◌, ◌≡◌, refl, Bool, true, false, List, [], ◌∷◌, replicate}
use Rattle.laws.specs.Quoted.{code, within}
use Rattle.laws.specs.Texts.{span, starts, begins, same}
use Rattle.chars.specs.Encode.{is_scalar, utf8, width, encode, bytes_of, spelled, lay}
use Rattle.chars.specs.Blank.{is_blank}
use Rattle.chars.specs.Machine.{step}
use Rattle.chars.specs.Utf8.{first, rest, front}
use Rattle.digits.specs.Digits.{digit_of, sign, uinteger, value, fit, signed, whole_of, integer}
use Rattle.digits.specs.Hex.{hex_digits, hex_after_plus, hex_value}
use Rattle.numbers.specs.Reals.{exponent_marker, exponent, suffix, point_of, dotted, undotted, decimal, infnan, integral_of, rational_of, denominator, exact, or_else, ureal, real}
use Rattle.numbers.specs.Grammar.{just_of, complex_of, polar_of, ends_i, imaginary, alone_of, pair_of, to_sign, starts_e, rectangular, complex}
use Rattle.numbers.specs.Grammar.{zero_int, zero_real, zero_parts, judged, radix_mark, prefix, parse_number}
use Rattle.items.specs.declared.Phase.TheVariants as ph
use Rattle.items.specs.declared.Quotes.TheVariants.{Double}
use Rattle.items.specs.Classes.{starts_run, first_of, in_quotes, after_backslash, stops_hex, in_hex, in_trim, in_nest, breaks_word, in_word, stays_run, ends_run, in_run, after_hash, ends_hash, in_hash, in_delim}
use Rattle.items.specs.Readers.{lined_of, scalar_of, past_failing, bool_kind, quote_kind, form_kind, hash_kind, unreturned, ends_with, here_ends}
use Rattle.items.specs.Meaning.{lookup, words, word_kind, word_means, run_means, escaped, string_text, lined_text, here_text, char_names, hex_named, spelled_out, character_of, unescape}
use Rattle.items.specs.Items.{extent_items, record_words}
use Rattle.items.specs.Kinds as kind
use Rattle.pieces.specs.declared.Stage.{Stage}
use Rattle.pieces.specs.declared.Stage.TheVariants.{Idle, Busy}
use Rattle.pieces.specs.declared.State.{State}
use Rattle.pieces.specs.Bounds.{is_in_bounds}
use Rattle.pieces.specs.Calls.{What, item, finished, refused, Reply, reply, fresh, whole, at_depth, text_after, turn_of, feed_of, piece_of, end_of, open_of}
use Rattle.pieces.specs.Due.{answer, answered}
use Rattle.pieces.specs.Expected.{longest}
use Rattle.pieces_promises.specs.Rows.{error, texted, deep, buffer}
use Rattle.pieces_lent.specs.Coding.{stage_of, standing, coded, narrow, is_same_row, is_code}
use Rattle.pieces_lent.specs.Calls.{piece_for, end_for}
use Rattle.exports.specs.Piece.{Memory, memory, called, piece_left, end_left, state_words}
use Rattle.exports_report_promises.specs.Read.{tenth}

-- a state in report mode: whether the end is declared, the stage, the place, the last error range, the count of bytes held, and the buffer
abbrev state : Bool → Stage → ℕ → ℕ → ℕ → ℕ → List ℕ → State
state e g at from to len buf =
    record { buf = buf; marks = record { mode = 1; skip = false; ended = e; stage = g; at = at; part = whole; from = from; to = to; len = len; depth = 0 } }

-- E10: the first error was given, and the quote behind it begins another
abbrev after_error : State
after_error = state false (Busy 8 (ph.Quoted Double)) 9 1 8 1 (buffer (spelled "\"\\xD800;"))

-- the bracket of `("` was given
abbrev in_string : State
in_string = (piece_of (fresh 1 false) (spelled "(\"") longest).state

-- C's memory of a state that was opened in report mode
abbrev opened : Memory
opened = memory (buffer []) (1 ∷ replicate (state_words - 1) 0) (replicate longest 7) (replicate record_words 7) (7 ∷ 7 ∷ [])

pub record Rows : Type 0 where
  pub ranged : piece_of (fresh 1 false) tenth longest ≡ reply 9 (error kind.InvalidHexCodePoint 0xD800 0 8 1 8) after_error
  pub own_place : end_of after_error longest ≡ reply 0 (error kind.IncompleteString 0 8 9 8 9) (state true Idle 9 1 8 0 (buffer (spelled "\"\\xD800;")))
  pub bar : answered (piece_of (fresh 1 false) (spelled "12|a|") longest) ≡ answer 3 (texted kind.Number 0 2 "12")
  pub failing : answered (piece_of in_string (spelled "\\x4G1;\"") longest) ≡ answer 7 (deep 1 (error kind.InvalidHexEscapeLiteral 2 1 8 5 6))
  -- as C gets them: the record of the error behind E10's first, and that of the number
  pub own_told : (end_left (piece_left opened tenth).memory).memory.item ≡ (kind.first_error + kind.IncompleteString) ∷ 0 ∷ 8 ∷ 9 ∷ 8 ∷ 9 ∷ 0 ∷ 0 ∷ 0 ∷ 0 ∷ []
  pub bar_told : (piece_left opened (spelled "12|a|")).memory.item ≡ kind.Number ∷ 0 ∷ 0 ∷ 2 ∷ 0 ∷ 2 ∷ 2 ∷ 0 ∷ 2 ∷ 0 ∷ []

rows : Rows
-- the list only permits the computing
unfolding within span starts begins same is_scalar utf8 width encode bytes_of is_blank step first rest front digit_of sign uinteger value fit
    signed whole_of integer hex_digits hex_after_plus hex_value exponent_marker exponent suffix point_of dotted undotted decimal infnan
    integral_of rational_of denominator exact or_else ureal real just_of complex_of polar_of ends_i imaginary alone_of pair_of to_sign starts_e
    rectangular complex zero_int zero_real zero_parts judged radix_mark prefix parse_number starts_run first_of in_quotes after_backslash
    stops_hex in_hex in_trim in_nest breaks_word in_word stays_run ends_run in_run after_hash ends_hash in_hash in_delim lined_of scalar_of
    bool_kind quote_kind form_kind hash_kind unreturned ends_with here_ends lookup words word_kind word_means run_means escaped string_text
    lined_text here_text char_names hex_named spelled_out character_of unescape extent_items is_in_bounds turn_of feed_of piece_of end_of open_of
    past_failing called lay stage_of standing coded narrow is_same_row is_code piece_for end_for
rows = record { ranged = refl; own_place = refl; bar = refl; failing = refl; own_told = refl; bar_told = refl }
