-- Many fields in one call: `lexer_fields::read_fields` ensures
-- `fields_call (answer_of r) rows' records' text' ≡ fields_of source ends mode skip rows records text`.
use Rattle.std.specs.Prelude.{ℕ, ◌<◌, ◌≡◌, refl, Bool, true, false, List, [], ◌∷◌, ◌++◌, length, eqb, if◌then◌else◌, Result, Ok, Err}
use Rattle.std.proofs.Common.{ap, sym, ◌∙◌, lt-ltb}
use Rattle.laws.specs.Texts.{span, starts, begins, same}
use Rattle.laws.specs.Quoted.{code, within}
use Rattle.refusal.specs.Refusals.{no_such_mode, bad_ends, over_long}
use Rattle.chars.specs.Encode.{is_scalar, utf8, width, encode, bytes_of, spelled}
use Rattle.chars.specs.Blank.{is_blank}
use Rattle.chars.specs.Utf8.{first, rest, front, first_bad, sequences, chars}
use Rattle.digits.specs.Digits.{digit_of, sign, uinteger, value, fit, signed, whole_of, integer}
use Rattle.digits.specs.Hex.{hex_digits, hex_after_plus, hex_value}
use Rattle.numbers.specs.Reals.{exponent_marker, exponent, suffix, point_of, dotted, undotted, decimal, infnan, integral_of, rational_of, denominator, exact, or_else, ureal, real}
use Rattle.numbers.specs.Grammar.{just_of, complex_of, polar_of, ends_i, imaginary, alone_of, pair_of, to_sign, starts_e, rectangular, complex}
use Rattle.numbers.specs.Grammar.{zero_int, zero_real, zero_parts, judged, radix_mark, prefix, parse_number}
use Rattle.items.specs.Kinds as kind
use Rattle.items.specs.Classes.{starts_run, first_of, in_quotes, after_backslash, stops_hex, in_hex, in_trim, in_nest, breaks_word, in_word, stays_run, ends_run, in_run, after_hash, ends_hash, in_hash, in_delim}
use Rattle.items.specs.Readers.{read_line, lined_of, scalar_of, past_failing, read_word, read_run, bool_kind, quote_kind, form_kind, hash_kind}
use Rattle.items.specs.Readers.{hash_bracket, hash_at, hash_comma, unreturned, ends_with, here_ends, here_body, here_delim, after_angle, read_hash}
use Rattle.items.specs.Readers.{read_comma, read_item, read_nest, read_quoted, read_word_on, hash_on}
use Rattle.items.specs.Meaning.{lookup, words, word_kind, word_means, run_means, escaped, string_text, lined_text, here_text, char_names, is_delimiter, nameless, hex_named, spelled_out, character_of, unescape}
use Rattle.items.specs.Items.{extent_items, items_from, past_line, after_pound, items, kept, records, texts}
use Rattle.items.specs.Whole.{Answer, served, refused, limit, is_mode}
use Rattle.items_promises.specs.Shapes.{room, words_for, bare, texted, error}
use Rattle.lexer_fields.specs.Fields.{parts, is_in_order, field_of, fields_on, item_count, records_in, texts_in, rows_from, FieldsCall, fields_call, deliver_fields, fields_of}
use Rattle.lexer_fields.specs.Answers.{answer_of}
use Rattle.lexer_fields.specs.declared.Total.{Total}
use Rattle.lexer_fields.specs.declared.FieldsError.{FieldsError}
use Rattle.lexer_fields.specs.declared.FieldsError.TheVariants as told

-- a row: the part's first record, its first text byte, its mark and its place
abbrev pub row : ℕ → ℕ → ℕ → ℕ → List ℕ
row r t m p = r ∷ t ∷ m ∷ p ∷ []

abbrev pub name : ℕ → ℕ → List ℕ
name s e = texted kind.Identifier s e 1 s e

-- the call in plain mode with room for two rows and a word, for so many records and for so many text bytes
abbrev pub plainly : List ℕ → List ℕ → ℕ → ℕ → FieldsCall
plainly source ends r t = fields_of source ends 0 false (room 9) (room (words_for r)) (room t)

-- what it gives for two parts: the word past their rows stays
abbrev gives : ℕ → ℕ → List ℕ → List ℕ → List ℕ → List ℕ → FieldsCall
gives n t one two recs text = fields_call (served n t) (one ++ two ++ room 1) recs text

-- refused: all memory stays
abbrev stays : Answer → ℕ → ℕ → FieldsCall
stays a r t = fields_call a (room 9) (room (words_for r)) (room t)

pub record Rows : Type 0 where
  -- extents count from the part's start, and a row tells its part's first record
  pub extents : plainly (spelled "ab") (1 ∷ 2 ∷ []) 2 0 ≡ gives 2 0 (row 0 0 0 0) (row 1 0 0 0) (name 0 1 ++ name 0 1) []
  -- text memory places count from the part's first text byte
  pub text_places_holds : plainly (spelled "\"\\n\"\"\\t\"") (4 ∷ 8 ∷ []) 2 2
      ≡ gives 2 2 (row 0 0 0 0) (row 1 1 0 0) (texted kind.StringLiteral 0 4 2 0 1 ++ texted kind.StringLiteral 0 4 2 0 1) (spelled "\n\t")
  -- a bracket that one part leaves open is not the next one's depth
  pub depths : plainly (spelled "((") (1 ∷ 2 ∷ []) 2 0
      ≡ gives 2 0 (row 0 0 0 0) (row 1 0 0 0) (bare kind.OpenParen kind.Round 0 1 ++ bare kind.OpenParen kind.Round 0 1) []
  -- the last error range of one part is not the next one's
  pub ranges : plainly (spelled "#\\ab#\\") (4 ∷ 6 ∷ []) 2 0
      ≡ gives 2 0 (row 0 0 0 0) (row 1 0 0 0) (error kind.InvalidCharName 0 0 4 0 4 ++ error kind.InvalidCharacter 0 0 2 0 2) []
  -- a part that is not UTF-8 has its mark, its place from its own start, and no records, though it begins with a name
  pub bad_part : plainly (code "a" ∷ code "b" ∷ 0xFF ∷ []) (1 ∷ 3 ∷ []) 2 0 ≡ gives 1 0 (row 0 0 0 0) (row 1 0 21 1) (name 0 1 ++ room (words_for 1)) []
  -- an end in the middle of a character, whose last byte is the greatest: neither part is UTF-8
  pub cut_apart : plainly (spelled "¿") (1 ∷ 2 ∷ []) 1 0 ≡ gives 0 0 (row 0 0 21 0) (row 0 0 21 0) (room (words_for 1)) []
  -- a first line `#!` may start any part
  pub first_line : plainly (spelled "a#!b") (1 ∷ 4 ∷ []) 2 0 ≡ gives 1 0 (row 0 0 0 0) (row 1 0 0 0) (name 0 1 ++ room (words_for 1)) []
  -- report mode and skipped comments hold in each part: in plain mode the first were an identifier
  pub reported : fields_of (spelled "1;1;") (2 ∷ 4 ∷ []) 1 true (room 9) (room (words_for 2)) []
      ≡ gives 2 0 (row 0 0 0 0) (row 1 0 0 0) (bare kind.Number 0 0 1 ++ bare kind.Number 0 0 1) []
  -- bytes past the last end belong to no part: one row, and the rest stays
  pub past_ends : plainly (spelled "ab") (1 ∷ []) 2 0 ≡ fields_call (served 1 0) (row 0 0 0 0 ++ room 5) (name 0 1 ++ room (words_for 1)) []
  -- ends that go back, and an end past the source, come before memory that is too little, and with 0
  pub goes_back : plainly (spelled "ab") (2 ∷ 1 ∷ []) 0 0 ≡ stays (refused 38 0 0) 0 0
  pub passes : plainly (spelled "ab") (1 ∷ 3 ∷ []) 0 0 ≡ stays (refused 38 0 0) 0 0
  -- 25 before 38
  pub no_mode : fields_of (spelled "ab") (2 ∷ 1 ∷ []) 2 false [] [] [] ≡ fields_call (refused 25 2 0) [] [] []
  -- 22 comes with the items and the text bytes of all parts, where the records or the text are too few, and where the rows alone are
  pub few_records : plainly (spelled "ab") (1 ∷ 2 ∷ []) 1 0 ≡ stays (refused 22 2 0) 1 0
  pub little_text_holds : plainly (spelled "\"\\n\"\"\\t\"") (4 ∷ 8 ∷ []) 2 1 ≡ stays (refused 22 2 2) 2 1
  pub few_rows : fields_of (spelled "ab") (1 ∷ 2 ∷ []) 0 false (room 7) (room (words_for 2)) [] ≡ fields_call (refused 22 2 0) (room 7) (room (words_for 2)) []

pub rows : Rows
-- the list only permits the computing
unfolding parts is_in_order field_of fields_on item_count records_in texts_in rows_from deliver_fields fields_of first_bad sequences chars span starts
    begins same is_scalar utf8 width encode bytes_of is_blank within first rest front
    digit_of sign uinteger value fit signed whole_of integer hex_digits hex_after_plus hex_value exponent_marker exponent suffix point_of dotted
    undotted decimal infnan integral_of rational_of denominator exact or_else ureal real just_of complex_of polar_of ends_i imaginary alone_of
    pair_of to_sign starts_e rectangular complex zero_int zero_real zero_parts judged radix_mark prefix parse_number starts_run first_of in_quotes
    after_backslash stops_hex in_hex in_trim in_nest breaks_word in_word stays_run ends_run in_run after_hash ends_hash in_hash in_delim read_line lined_of
    scalar_of past_failing read_word read_run bool_kind quote_kind form_kind hash_kind hash_bracket hash_at hash_comma unreturned ends_with here_ends
    here_body here_delim after_angle read_hash read_comma read_item read_nest read_quoted read_word_on hash_on lookup words word_kind word_means run_means
    escaped string_text lined_text here_text char_names is_delimiter nameless hex_named spelled_out character_of unescape extent_items items_from
    past_line after_pound items kept records texts
rows = record {
  extents = refl;
  text_places_holds = refl;
  depths = refl;
  ranges = refl;
  bad_part = refl;
  cut_apart = refl;
  first_line = refl;
  reported = refl;
  past_ends = refl;
  goes_back = refl;
  passes = refl;
  no_mode = refl;
  few_records = refl;
  little_text_holds = refl;
  few_rows = refl;
}

-- ---- every other answer

-- two answers that stand for the same number and values are one
answered_one : (a b : Result Total FieldsError) → answer_of a ≡ answer_of b → a ≡ b
answered_one a b e = sym (back-answered a) ∙ ap back e ∙ back-answered b
  where
    back : Answer → Result Total FieldsError
    back (served n t) = Ok (record { items = n; text = t })
    back (refused n x y) =
        if eqb n no_such_mode then Err (told.NoMode x)
        else if eqb n bad_ends then Err told.BadEnds
        else if eqb n over_long then Err told.TooLong
        else Err (told.NoRoom (record { items = x; text = y }))

    back-answered : (a : Result Total FieldsError) → back (answer_of a) ≡ a
    back-answered (Ok n) = refl
    back-answered (Err (told.NoMode m)) = refl
    back-answered (Err told.BadEnds) = refl
    back-answered (Err told.TooLong) = refl
    back-answered (Err (told.NoRoom n)) = refl

-- two answers that the contract permits coincide, and so do the memories
pub one_answer : (c : FieldsCall) (a b : Result Total FieldsError) (w w' r r' t t' : List ℕ) → fields_call (answer_of a) w r t ≡ c → fields_call (answer_of b) w' r' t' ≡ c
    → (a ≡ b) × ((w ≡ w') × ((r ≡ r') × (t ≡ t')))
one_answer c a b w w' r r' t t' h k =
    let e : fields_call (answer_of a) w r t ≡ fields_call (answer_of b) w' r' t' = h ∙ sym k in
    (answered_one a b (ap (λ (x : FieldsCall). x.answer) e), (ap (λ (x : FieldsCall). x.rows) e, (ap (λ (x : FieldsCall). x.records) e, ap (λ (x : FieldsCall). x.text) e)))

-- a source over the limit, whatever its bytes: 20 with the limit, once the mode is one and the ends are in order
pub too_long : (source ends : List ℕ) (mode : ℕ) (skip : Bool) (w r t : List ℕ) → is_mode mode ≡ true → is_in_order (length source) 0 ends ≡ true → limit < length source
    → fields_of source ends mode skip w r t ≡ fields_call (refused 20 4294967295 0) w r t
unfolding fields_of
too_long source ends mode skip w r t m o h = rw (m, o, lt-ltb limit (length source) h)
