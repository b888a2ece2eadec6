-- Texts in pieces: what the driver is given, each under two cuttings, its last word at the edges of 23, and refused calls. Three tables
-- under one statement, proved by computation.
use Rattle.std.specs.Prelude.{ℕ, ◌+◌, ◌≡◌, refl, Bool, true, false, List, [], ◌∷◌, ◌++◌, map, length, take, replicate}
use Prim.Native.String.{String}
use Rattle.laws.specs.Quoted.{code, within}
use Rattle.laws.specs.Texts.{span, starts, begins, same}
use Rattle.chars.specs.Encode.{is_scalar, utf8, width, encode, bytes_of, spelled}
use Rattle.chars.specs.Blank.{is_blank}
use Rattle.chars.specs.Machine.{step}
use Rattle.chars.specs.Utf8.{first, rest, front}
use Rattle.digits.specs.Digits.{digit_of, sign, uinteger, value, fit, signed, whole_of, integer}
use Rattle.digits.specs.Hex.{hex_digits, hex_after_plus, hex_value}
use Rattle.numbers.specs.Reals.{exponent_marker, exponent, suffix, point_of, dotted, undotted, decimal, infnan, integral_of, rational_of, denominator, exact, or_else, ureal, real}
use Rattle.numbers.specs.Grammar.{just_of, complex_of, polar_of, ends_i, imaginary, alone_of, pair_of, to_sign, starts_e, rectangular, complex}
use Rattle.numbers.specs.Grammar.{zero_int, zero_real, zero_parts, judged, radix_mark, prefix, parse_number}
use Rattle.items.specs.Classes.{starts_run, first_of, in_quotes, after_backslash, stops_hex, in_hex, in_trim, in_nest, breaks_word, in_word, stays_run, ends_run, in_run, after_hash, ends_hash, in_hash, in_delim}
use Rattle.items.specs.Readers.{lined_of, scalar_of, past_failing, bool_kind, quote_kind, form_kind, hash_kind, unreturned, ends_with, here_ends}
use Rattle.items.specs.Meaning.{lookup, words, word_kind, word_means, run_means, escaped, string_text, lined_text, here_text, char_names, is_delimiter, nameless, hex_named, spelled_out, character_of, unescape}
use Rattle.items.specs.Items.{extent_items, own_words}
use Rattle.items.specs.Kinds as kind
use Rattle.pieces.specs.Bounds.{is_in_bounds}
use Rattle.pieces.specs.Calls as call
use Rattle.pieces.specs.Calls.{What, fresh, turn_of, feed_of, piece_of, end_of, open_of}
use Rattle.pieces.specs.Drive.{piece_calls, end_calls, hand_over, drive}
use Rattle.pieces.specs.Expected.{Expected, LastWord, finished, refused, longest}
use Rattle.pieces.specs.Given.{Given}

record Example : Type 0 where
  mode : ℕ
  skip : Bool
  cuttings : List (List (List ℕ))
  wanted : Expected

-- byte by byte, and an empty piece at the end
abbrev singly : List ℕ → List (List ℕ)
singly [] = [] ∷ []
singly (b ∷ bs) = (b ∷ []) ∷ singly bs

-- a text in one piece, and byte by byte
abbrev both_ways : List ℕ → List (List (List ℕ))
both_ways bs = (bs ∷ []) ∷ singly bs ∷ []

abbrev example : ℕ → Bool → List (List (List ℕ)) → List Given → LastWord → Example
example m s cs gs w = record { mode = m; skip = s; cuttings = cs; wanted = record { items = gs; last = w } }

abbrev plain : String → List Given → Example
plain t gs = example 0 false (both_ways (spelled t)) gs finished

abbrev reported : String → List Given → Example
reported t gs = example 1 false (both_ways (spelled t)) gs finished

-- outside all brackets: an item with no text, whose place is its extent
abbrev bare : ℕ → ℕ → ℕ → ℕ → Given
bare k d s e = record { words = k ∷ d ∷ s ∷ e ∷ s ∷ e ∷ 0 ∷ 0 ∷ 0 ∷ 0 ∷ []; text = [] }

-- an error: its number, its detail, its extent and its place
abbrev error : ℕ → ℕ → ℕ → ℕ → ℕ → ℕ → Given
error n d s e a b = record { words = (kind.first_error + n) ∷ d ∷ s ∷ e ∷ a ∷ b ∷ 0 ∷ 0 ∷ 0 ∷ 0 ∷ []; text = [] }

-- an item with its text, which is copied to the text memory
abbrev texted : ℕ → ℕ → ℕ → String → Given
texted k s e t = record { words = k ∷ 0 ∷ s ∷ e ∷ s ∷ e ∷ 2 ∷ 0 ∷ length (spelled t) ∷ 0 ∷ []; text = spelled t }

-- the same with n brackets open
abbrev deep : ℕ → Given → Given
deep n g = record { words = take own_words g.words ++ (n ∷ []); text = g.text }

table : List Example
table =
    -- E1: no piece, and two empty ones
    example 0 false ([] ∷ ([] ∷ [] ∷ []) ∷ []) [] finished
    -- E2, and with a character beyond
    ∷ plain "+foo" (texted kind.Identifier 0 4 "+" ∷ texted kind.Identifier 0 4 "foo" ∷ [])
    ∷ plain "+foo)" (texted kind.Identifier 0 4 "+" ∷ texted kind.Identifier 0 4 "foo" ∷ bare kind.CloseParen kind.Round 4 5 ∷ [])
    -- E8, in both modes; a number's whole extent is its text
    ∷ plain "14.7;gps" (texted kind.Identifier 0 4 "14.7" ∷ bare kind.Comment 0 4 8 ∷ [])
    ∷ reported "14.7;gps" (texted kind.Number 0 4 "14.7" ∷ bare kind.Comment 0 4 8 ∷ [])
    -- 02 (iii): in report mode a number ends at a vertical line
    ∷ reported "12|Birch|" (texted kind.Number 0 2 "12" ∷ texted kind.Identifier 2 9 "Birch" ∷ [])
    ∷ reported "1|a|" (texted kind.Number 0 1 "1" ∷ texted kind.Identifier 1 4 "a" ∷ [])
    -- and what is no number goes on there, as in plain mode
    ∷ reported "-|a|" (error kind.IncompleteIdentifier 0 0 4 0 4 ∷ [])
    ∷ reported "+|a|" (texted kind.Identifier 0 4 "+" ∷ texted kind.Identifier 0 4 "|a|" ∷ [])
    -- E9 and E11: decoded text
    ∷ plain "|a\\|" (texted kind.Identifier 0 4 "a|" ∷ [])
    ∷ plain "\"\\x+41;\"" (texted kind.StringLiteral 0 8 "A" ∷ [])
    -- E10: an error's range stands on, also between pieces
    ∷ plain "\"\\xD800;\"" (error kind.InvalidHexCodePoint 0xD800 0 8 1 8 ∷ error kind.IncompleteString 0 8 9 1 8 ∷ [])
    -- and in report mode it does not
    ∷ reported "\"\\xD800;\"" (error kind.InvalidHexCodePoint 0xD800 0 8 1 8 ∷ error kind.IncompleteString 0 8 9 8 9 ∷ [])
    -- 02 (vii): in report mode error 11 points at the character that fails, cut within it too, or at the empty place where digits should
    -- stand; a delimiter in a character's name is error 13
    ∷ plain "\"\\x4é;\"" (error kind.InvalidHexEscapeLiteral 2 0 7 1 7 ∷ error kind.IncompleteString 0 7 8 1 7 ∷ [])
    ∷ reported "\"\\x4é;\"" (error kind.InvalidHexEscapeLiteral 2 0 7 4 6 ∷ error kind.IncompleteString 0 7 8 7 8 ∷ [])
    ∷ reported "|\\x4é;|" (error kind.InvalidHexEscapeLiteral 2 0 7 4 6 ∷ error kind.IncompleteIdentifier 0 7 8 7 8 ∷ [])
    ∷ reported "#\\x4é" (error kind.InvalidHexEscapeLiteral 2 0 6 4 6 ∷ [])
    ∷ reported "\"\\x;\"" (error kind.InvalidHexEscapeLiteral 1 0 4 3 3 ∷ error kind.IncompleteString 0 4 5 4 5 ∷ [])
    ∷ reported "\"\\x100000000;\"" (error kind.InvalidHexEscapeLiteral 3 0 13 11 12 ∷ error kind.IncompleteString 0 13 14 13 14 ∷ [])
    ∷ plain "#\\a;" (error kind.InvalidCharName 0 0 4 0 4 ∷ [])
    ∷ reported "#\\a;" (error kind.InvalidCharDelimiter 0 0 4 3 4 ∷ [])
    -- a comma is not known before the next character
    ∷ plain ",@" (bare kind.UnquoteSplice 0 0 2 ∷ [])
    ∷ plain ",a" (bare kind.Unquote 0 0 1 ∷ texted kind.Identifier 1 2 "a" ∷ [])
    -- cut within a character
    ∷ plain "λ λx" (bare kind.Lambda 0 0 2 ∷ texted kind.Identifier 3 6 "λx" ∷ [])
    -- the text of `lexlist`
    ∷ plain "(a 14.7;gps\n"
    (bare kind.OpenParen kind.Round 0 1 ∷ deep 1 (texted kind.Identifier 1 2 "a") ∷ deep 1 (texted kind.Identifier 3 7 "14.7") ∷ deep 1 (bare kind.Comment 0 7 12) ∷ [])
    -- 02 (vi): the depth is that before the item, and a close with none open leaves it at 0
    ∷ plain "(a)" (bare kind.OpenParen kind.Round 0 1 ∷ deep 1 (texted kind.Identifier 1 2 "a") ∷ deep 1 (bare kind.CloseParen kind.Round 2 3) ∷ [])
    ∷ plain ")([" (bare kind.CloseParen kind.Round 0 1 ∷ bare kind.OpenParen kind.Round 1 2 ∷ deep 1 (bare kind.OpenParen kind.Square 2 3) ∷ [])
    ∷ plain "(+a)"
    (bare kind.OpenParen kind.Round 0 1 ∷ deep 1 (texted kind.Identifier 1 3 "+") ∷ deep 1 (texted kind.Identifier 1 3 "a") ∷ deep 1 (bare kind.CloseParen kind.Round 3 4) ∷ [])
    ∷ example 0 true (both_ways (spelled "(;a\nb")) (bare kind.OpenParen kind.Round 0 1 ∷ deep 1 (texted kind.Identifier 4 5 "b") ∷ []) finished
    -- a first line, which is not an item
    ∷ plain "#!x\nif" (bare kind.If 0 4 6 ∷ [])
    -- a comment is skipped, in the text and at its end
    ∷ example 0 true (both_ways (spelled "a;b\nc #|d|#")) (texted kind.Identifier 0 1 "a" ∷ texted kind.Identifier 4 5 "c" ∷ []) finished
    -- a bad byte: what ended before the whole characters did was given; the place is the start of its sequence
    ∷ example 0 false (both_ways (spelled "a b" ++ (0xFF ∷ []))) (texted kind.Identifier 0 1 "a" ∷ []) (refused 21 3)
    ∷ example 0 false (both_ways (spelled "+ab " ++ (0xCE ∷ code "(" ∷ []))) (texted kind.Identifier 0 3 "+" ∷ texted kind.Identifier 0 3 "ab" ∷ []) (refused 21 4)
    -- a sequence that the end cuts
    ∷ example 0 false (both_ways (spelled "a " ++ (0xCE ∷ []))) (texted kind.Identifier 0 1 "a" ∷ []) (refused 21 2)
    ∷ []

-- ---- 23: "an item, a skipped comment too, grows past 4,096 bytes", with its start; blanks and a first line may be longer

record Edge : Type 0 where
  skip : Bool
  pieces : List (List ℕ)
  wanted : LastWord

abbrev edge : Bool → List ℕ → List ℕ → LastWord → Edge
edge s before more w = record { skip = s; pieces = before ∷ more ∷ []; wanted = w }

-- so many times the character of a quoted text
abbrev times : ℕ → String → List ℕ
times n t = replicate n (code t)

edges : List Edge
edges =
    edge false [] (times 4096 "a") finished
    ∷ edge false [] (times 4097 "a") (refused 23 0)
    ∷ edge false (spelled " ;") (times 4095 "a") finished
    ∷ edge true (spelled " ;") (times 4096 "a") (refused 23 1)
    ∷ edge false [] (times 4097 " ") finished
    ∷ edge false (spelled "#!") (times 4097 "a") finished
    ∷ []

-- ---- refused calls: 25; 24; 27 before 24; 26; a standing stop before 26

refusals : List What
refusals =
    (open_of 2 false).what
    ∷ (piece_of (fresh 0 false) (spelled "a") 4095).what
    ∷ (piece_of (fresh 2 false) (spelled "a") 4095).what
    ∷ (piece_of (end_of (fresh 0 false) longest).state (spelled "a") longest).what
    ∷ (piece_of (end_of (piece_of (fresh 0 false) (0xFF ∷ []) longest).state longest).state (spelled "a") longest).what
    ∷ []

-- ---- all tables

computed : (map (λ r. map (λ ps. drive r.mode r.skip longest ps) r.cuttings) table ≡ map (λ r. map (λ ps. r.wanted) r.cuttings) table)
    × ((map (λ e. (drive 0 e.skip longest e.pieces).last) edges ≡ map (λ e. e.wanted) edges)
    × (refusals ≡ call.refused 25 2 ∷ call.refused 24 0 ∷ call.refused 27 0 ∷ call.refused 26 0 ∷ call.refused 21 0 ∷ []))
-- the list only permits the computing
unfolding table edges refusals span starts begins same is_scalar utf8 width encode bytes_of is_blank step within first rest front digit_of sign
    uinteger value fit signed whole_of integer hex_digits hex_after_plus hex_value exponent_marker exponent suffix point_of dotted undotted decimal
    infnan integral_of rational_of denominator exact or_else ureal real just_of complex_of polar_of ends_i imaginary alone_of pair_of to_sign starts_e
    rectangular complex zero_int zero_real zero_parts judged radix_mark prefix parse_number starts_run first_of in_quotes after_backslash stops_hex
    in_hex in_trim in_nest breaks_word in_word stays_run ends_run in_run after_hash ends_hash in_hash in_delim lined_of scalar_of past_failing bool_kind
    quote_kind form_kind hash_kind unreturned ends_with here_ends lookup words word_kind word_means run_means escaped string_text lined_text here_text
    char_names is_delimiter nameless hex_named spelled_out character_of unescape extent_items is_in_bounds turn_of feed_of piece_of end_of open_of
    piece_calls end_calls hand_over drive
computed = (refl, (refl, refl))
