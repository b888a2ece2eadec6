-- A text in pieces with refused calls in between, call by call, and the same text handed over with a memory of another length at every call.
-- One statement, proved by computation.
use Rattle.std.specs.Prelude.{ℕ, ◌≡◌, refl, false, List, [], ◌∷◌, map, length}
use Prim.Native.String.{String}
use Rattle.laws.specs.Quoted.{within}
use Rattle.laws.specs.Texts.{span, starts, begins, same}
use Rattle.chars.specs.Encode.{is_scalar, utf8, width, encode, bytes_of, spelled}
use Rattle.chars.specs.Blank.{is_blank}
use Rattle.chars.specs.Machine.{step}
use Rattle.chars.specs.Utf8.{first, rest, front}
use Rattle.digits.specs.Digits.{digit_of, sign, uinteger, value, fit, signed, whole_of, integer}
use Rattle.digits.specs.Hex.{hex_digits, hex_after_plus, hex_value}
use Rattle.numbers.specs.Reals.{exponent_marker, exponent, suffix, point_of, dotted, undotted, decimal, infnan, integral_of, rational_of, denominator, exact, or_else, ureal, real}
use Rattle.numbers.specs.Grammar.{just_of, complex_of, polar_of, ends_i, imaginary, alone_of, pair_of, to_sign, starts_e, rectangular, complex}
use Rattle.numbers.specs.Grammar.{zero_int, zero_real, zero_parts, judged, radix_mark, prefix, parse_number}
use Rattle.items.specs.Classes.{starts_run, first_of, in_quotes, after_backslash, stops_hex, in_hex, in_trim, in_nest, breaks_word, in_word, stays_run, ends_run, in_run, after_hash, ends_hash, in_hash, in_delim}
use Rattle.items.specs.Readers.{lined_of, scalar_of, past_failing, bool_kind, quote_kind, form_kind, hash_kind, unreturned, ends_with, here_ends}
use Rattle.items.specs.Meaning.{lookup, words, word_kind, word_means, run_means, escaped, string_text, lined_text, here_text, char_names, is_delimiter, nameless, hex_named, spelled_out, character_of, unescape}
use Rattle.items.specs.Kinds as kind
use Rattle.items.specs.Items.{extent_items}
use Rattle.pieces.specs.declared.State.{State}
use Rattle.pieces.specs.Bounds.{is_in_bounds}
use Rattle.pieces.specs.Calls.{What, item, more, finished, refused, turn_of, feed_of, piece_of, end_of, open_of}
use Rattle.pieces.specs.Due.{Answer, answer, answered}
use Rattle.pieces.specs.Expected as word
use Rattle.pieces.specs.Given.{Given}
use Rattle.pieces_any_calls.specs.After.{Call, piece, end, reply_to, after, sum_of}
use Rattle.pieces_any_calls.specs.Lend.{piece_calls, end_calls, hand_over, drive}

abbrev texted : ℕ → ℕ → String → Given
texted s e t = record { words = kind.Identifier ∷ 0 ∷ s ∷ e ∷ s ∷ e ∷ 2 ∷ 0 ∷ length (spelled t) ∷ 0 ∷ []; text = spelled t }

given : List Given
given = texted 0 4 "+" ∷ texted 0 4 "foo" ∷ texted 5 6 "x" ∷ []

-- a call, the bytes that it takes, and what it gives
record Row : Type 0 where
  call : Call
  wanted : Answer

abbrev row : Call → ℕ → What → Row
row c n w = record { call = c; wanted = answer n w }

rows : List Row
rows =
    row (piece (spelled "+fo") 4096) 3 more
    -- a memory too short: nothing is taken, and the piece is handed over again
    ∷ row (piece (spelled "o x") 4095) 0 (refused 24 0)
    ∷ row (piece (spelled "o x") 5000) 2 (item (texted 0 4 "+"))
    -- an end without memory declares nothing: the text goes on
    ∷ row (end 0) 0 (refused 24 0)
    ∷ row (piece (spelled "x") 4096) 0 (item (texted 0 4 "foo"))
    ∷ row (piece (spelled "x") 10000) 1 more
    ∷ row (end 4095) 0 (refused 24 0)
    ∷ row (end 4096) 0 (item (texted 5 6 "x"))
    -- a piece after the declared end
    ∷ row (piece (spelled "y") 4096) 0 (refused 26 0)
    ∷ row (piece (spelled "y") 0) 0 (refused 24 0)
    ∷ row (end 5000) 0 finished
    ∷ []

-- what the calls answer, one after the other
abbrev answers : State → List Call → List Answer
answers s [] = []
answers s (c ∷ calls) = answered (reply_to s c) ∷ answers (reply_to s c).state calls

computed : (answers (open_of 0 false).state (map (λ r. r.call) rows) ≡ map (λ r. r.wanted) rows)
    × (((sum_of 0 false (map (λ r. r.call) rows)).taken ≡ spelled "+foo x")
    × (((sum_of 0 false (map (λ r. r.call) rows)).items ≡ given)
    × (drive 0 false (4095 ∷ 4096 ∷ 0 ∷ 9000 ∷ 4096 ∷ 4097 ∷ 1 ∷ 4096 ∷ 4095 ∷ 4096 ∷ []) (spelled "+fo" ∷ spelled "o x" ∷ [])
    ≡ record { items = given; last = word.finished })))
-- the list only permits the computing
unfolding rows given span starts begins same is_scalar utf8 width encode bytes_of is_blank step within first rest front digit_of sign uinteger
    value fit signed whole_of integer hex_digits hex_after_plus hex_value exponent_marker exponent suffix point_of dotted undotted decimal infnan
    integral_of rational_of denominator exact or_else ureal real just_of complex_of polar_of ends_i imaginary alone_of pair_of to_sign starts_e
    rectangular complex zero_int zero_real zero_parts judged radix_mark prefix parse_number starts_run first_of in_quotes after_backslash stops_hex
    in_hex in_trim in_nest breaks_word in_word stays_run ends_run in_run after_hash ends_hash in_hash in_delim lined_of scalar_of past_failing bool_kind
    quote_kind form_kind hash_kind unreturned ends_with here_ends lookup words word_kind word_means run_means escaped string_text lined_text here_text
    char_names is_delimiter nameless hex_named spelled_out character_of unescape extent_items is_in_bounds turn_of feed_of piece_of end_of open_of after
    piece_calls end_calls hand_over drive
computed = (refl, (refl, (refl, refl)))
