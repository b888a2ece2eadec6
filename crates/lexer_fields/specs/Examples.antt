-- What the call gives for small sources: the answer and all three memories. One table, one statement, proved by computation.
use Rattle.std.specs.Prelude.{ℕ, ◌+◌, ◌≡◌, refl, false, List, [], ◌∷◌, ◌++◌, map}
use Rattle.refusal.specs.Refusals as refusal
use Rattle.chars.specs.Encode.{is_scalar, utf8, width, encode, bytes_of, spelled}
use Rattle.chars.specs.Utf8.{first, rest, front, sequences, first_bad, chars}
use Rattle.laws.specs.Quoted.{within}
use Rattle.items.specs.Kinds as kind
use Rattle.laws.specs.Texts.{span, starts, begins, same}
use Rattle.chars.specs.Blank.{is_blank}
use Rattle.digits.specs.Digits.{digit_of, sign, uinteger, value, fit, signed, whole_of, integer}
use Rattle.digits.specs.Hex.{hex_digits, hex_after_plus, hex_value}
use Rattle.numbers.specs.Reals.{exponent_marker, exponent, suffix, point_of, dotted, undotted, decimal, infnan, integral_of, rational_of, denominator, exact, or_else, ureal, real}
use Rattle.numbers.specs.Grammar.{just_of, complex_of, polar_of, ends_i, imaginary, alone_of, pair_of, to_sign, starts_e, rectangular, complex}
use Rattle.numbers.specs.Grammar.{zero_int, zero_real, zero_parts, judged, radix_mark, prefix, parse_number}
use Rattle.items.specs.Classes.{starts_run, first_of, in_quotes, after_backslash, stops_hex, in_hex, in_trim, in_nest, breaks_word, in_word, stays_run, ends_run, in_run, after_hash, ends_hash, in_hash, in_delim}
use Rattle.items.specs.Readers.{read_line, lined_of, scalar_of, read_word, read_run, bool_kind, quote_kind, form_kind, hash_kind, hash_bracket, hash_at, hash_comma, unreturned, ends_with, here_ends}
use Rattle.items.specs.Readers.{here_body, here_delim, after_angle, read_hash, read_comma, read_item, read_nest, read_quoted, read_word_on, hash_on, past_failing}
use Rattle.items.specs.Meaning.{lookup, words, word_kind, word_means, run_means, escaped, string_text, lined_text, here_text, char_names, is_delimiter, nameless, hex_named, spelled_out, character_of, unescape}
use Rattle.items.specs.Items.{extent_items, items_from, past_line, after_pound, items, kept, records, texts}
use Rattle.items.specs.Whole.{Answer, served, refused}
use Rattle.lexer_fields.specs.Fields.{parts, is_in_order, field_of, fields_on, item_count, records_in, texts_in, rows_from, FieldsCall, fields_call, deliver_fields, fields_of}

-- a row, and a record
abbrev four : ℕ → ℕ → ℕ → ℕ → List ℕ
four r t m p = r ∷ t ∷ m ∷ p ∷ []

abbrev ten : ℕ → ℕ → ℕ → ℕ → ℕ → ℕ → ℕ → ℕ → ℕ → ℕ → List ℕ
ten k d s e a b o f t depth = k ∷ d ∷ s ∷ e ∷ a ∷ b ∷ o ∷ f ∷ t ∷ depth ∷ []

abbrev name : ℕ → ℕ → List ℕ
name s e = ten kind.Identifier 0 s e s e 1 s e 0

-- a string of one decoded byte
abbrev one : List ℕ
one = ten kind.StringLiteral 0 0 4 0 4 2 0 1 0

-- E10's two records
abbrev tenth : List ℕ
tenth = ten (kind.first_error + kind.InvalidHexCodePoint) 0xD800 0 8 1 8 0 0 0 0 ++ ten (kind.first_error + kind.IncompleteString) 0 8 9 1 8 0 0 0 0

-- words of lent memory that nothing was written to
abbrev idle : List ℕ
idle = 7 ∷ 7 ∷ 7 ∷ 7 ∷ []

abbrev room : List ℕ
room = idle ++ idle ++ idle

-- room for four records and a word
abbrev space : List ℕ
space = room ++ room ++ room ++ idle ++ 7 ∷ []

-- what is left of it past one record, and past two
abbrev past_one : List ℕ
past_one = room ++ room ++ idle ++ 7 ∷ 7 ∷ 7 ∷ []

abbrev past_two : List ℕ
past_two = room ++ idle ++ idle ++ 7 ∷ []

record Example : Type 0 where
  source : List ℕ
  ends : List ℕ
  mode : ℕ
  rows : List ℕ
  records : List ℕ
  text : List ℕ
  wanted : FieldsCall

-- read plainly, with three rows, four records and two bytes of text memory
abbrev plainly : List ℕ → List ℕ → ℕ → ℕ → List ℕ → List ℕ → List ℕ → Example
plainly s ends n t rows recs text = record { source = s; ends = ends; mode = 0; rows = room; records = space; text = 7 ∷ 7 ∷ []; wanted = fields_call (served n t) rows recs text }

-- refused: every memory is as it was
abbrev not : List ℕ → List ℕ → ℕ → List ℕ → List ℕ → List ℕ → Answer → Example
not s ends mode rows recs text a = record { source = s; ends = ends; mode = mode; rows = rows; records = recs; text = text; wanted = fields_call a rows recs text }

table : List Example
table =
    -- no parts: bytes past the last end belong to none
    plainly (spelled "a") [] 0 0 room space (7 ∷ 7 ∷ [])
    -- an empty part between two others; extents count from the part's start
    ∷ plainly (spelled "ab") (1 ∷ 1 ∷ 2 ∷ []) 2 0 (four 0 0 0 0 ++ four 1 0 0 0 ++ four 1 0 0 0) (name 0 1 ++ name 0 1 ++ past_two) (7 ∷ 7 ∷ [])
    -- bytes past the last end
    ∷ plainly (spelled "ab") (1 ∷ []) 1 0 (four 0 0 0 0 ++ idle ++ idle) (name 0 1 ++ past_one) (7 ∷ 7 ∷ [])
    -- a part that is not UTF-8 between two others; its place counts from its start, and it has no records, though it has a name before
    ∷ plainly (0x61 ∷ 0x62 ∷ 0xFF ∷ 0x63 ∷ []) (1 ∷ 3 ∷ 4 ∷ []) 2 0 (four 0 0 0 0 ++ four 1 0 21 1 ++ four 1 0 0 0) (name 0 1 ++ name 0 1 ++ past_two) (7 ∷ 7 ∷ [])
    -- an end in the middle of a character: both parts are bad
    ∷ plainly (spelled "λ") (1 ∷ 2 ∷ []) 0 0 (four 0 0 21 0 ++ four 0 0 21 0 ++ idle) space (7 ∷ 7 ∷ [])
    -- `#!` starts the second part
    ∷ plainly (spelled "a#!b") (1 ∷ 4 ∷ []) 1 0 (four 0 0 0 0 ++ four 1 0 0 0 ++ idle) (name 0 1 ++ past_one) (7 ∷ 7 ∷ [])
    -- the error range of the first part is not the second's
    ∷ plainly (spelled "\"\\xD800;\"#\\") (9 ∷ 11 ∷ []) 3 0 (four 0 0 0 0 ++ four 2 0 0 0 ++ idle)
    (tenth ++ ten (kind.first_error + kind.InvalidCharacter) 0 0 2 0 2 0 0 0 0 ++ idle ++ idle ++ 7 ∷ 7 ∷ 7 ∷ []) (7 ∷ 7 ∷ [])
    -- E10 twice
    ∷ plainly (spelled "\"\\xD800;\"\"\\xD800;\"") (9 ∷ 18 ∷ []) 4 0 (four 0 0 0 0 ++ four 2 0 0 0 ++ idle) (tenth ++ tenth ++ 7 ∷ []) (7 ∷ 7 ∷ [])
    -- a bracket that one part leaves open is not the next one's depth
    ∷ plainly (spelled "((") (1 ∷ 2 ∷ []) 2 0 (four 0 0 0 0 ++ four 1 0 0 0 ++ idle) (ten kind.OpenParen 0 0 1 0 1 0 0 0 0 ++ ten kind.OpenParen 0 0 1 0 1 0 0 0 0 ++ past_two) (7 ∷ 7 ∷ [])
    -- text memory places count from the part's first text byte
    ∷ plainly (spelled "\"\\n\"\"\\t\"") (4 ∷ 8 ∷ []) 2 2 (four 0 0 0 0 ++ four 1 1 0 0 ++ idle) (one ++ one ++ past_two) (spelled "\n\t")
    -- ends that go back; an end past the source; both before the memory is asked after, and after the mode
    ∷ not (spelled "ab") (2 ∷ 1 ∷ []) 0 room space (7 ∷ 7 ∷ []) (refused refusal.bad_ends 0 0)
    ∷ not (spelled "ab") (1 ∷ 3 ∷ []) 0 room space (7 ∷ 7 ∷ []) (refused refusal.bad_ends 0 0)
    ∷ not (spelled "ab") (1 ∷ 3 ∷ []) 0 [] [] [] (refused refusal.bad_ends 0 0)
    ∷ not (spelled "ab") (1 ∷ 3 ∷ []) 2 room space (7 ∷ 7 ∷ []) (refused refusal.no_such_mode 2 0)
    -- too few rows, records or bytes of text memory: the totals of all parts
    ∷ not (spelled "ab") (1 ∷ 2 ∷ []) 0 (7 ∷ 7 ∷ 7 ∷ idle) space (7 ∷ 7 ∷ []) (refused refusal.too_few 2 0)
    ∷ not (spelled "ab") (1 ∷ 2 ∷ []) 0 room (room ++ idle ++ 7 ∷ 7 ∷ 7 ∷ []) [] (refused refusal.too_few 2 0)
    ∷ not (spelled "\"\\n\"\"\\t\"") (4 ∷ 8 ∷ []) 0 room space (7 ∷ []) (refused refusal.too_few 2 2)
    ∷ []

computed : map (λ r. fields_of r.source r.ends r.mode false r.rows r.records r.text) table ≡ map (λ r. r.wanted) table
-- the list only permits the computing
unfolding table parts is_in_order field_of fields_on item_count records_in texts_in rows_from deliver_fields fields_of sequences first_bad chars span starts
    begins same is_scalar utf8 width encode bytes_of is_blank within first rest front digit_of sign uinteger value fit signed whole_of integer
    hex_digits hex_after_plus hex_value exponent_marker exponent suffix point_of dotted undotted decimal infnan integral_of rational_of denominator
    exact or_else ureal real just_of complex_of polar_of ends_i imaginary alone_of pair_of to_sign starts_e rectangular complex zero_int zero_real
    zero_parts judged radix_mark prefix parse_number starts_run first_of in_quotes after_backslash stops_hex in_hex in_trim in_nest breaks_word in_word
    stays_run ends_run in_run after_hash ends_hash in_hash in_delim read_line lined_of scalar_of past_failing read_word read_run bool_kind quote_kind
    form_kind hash_kind hash_bracket hash_at hash_comma unreturned ends_with here_ends here_body here_delim after_angle read_hash read_comma read_item
    read_nest read_quoted read_word_on hash_on lookup words word_kind word_means run_means escaped string_text lined_text here_text char_names is_delimiter
    nameless hex_named spelled_out character_of unescape extent_items items_from past_line after_pound items kept records texts
computed = refl
