-- Words, characters and texts between quotes: what the calls of `words`, `characters` and `escapes` ensure is `r ≡` these definitions of
-- crate `items`, and what they leave in lent memory is `written` of them.
use Rattle.std.specs.Prelude.{ℕ, ◌≡◌, refl, true, false, List, [], ◌∷◌, ◌++◌, map, length, drop, Ok, Err}
use Rattle.laws.specs.Texts.{span, same}
use Rattle.laws.specs.Quoted.{code, within}
use Rattle.laws.specs.Lent.{written}
use Rattle.chars.specs.Encode.{is_scalar, utf8, encode, bytes_of, spelled}
use Rattle.chars.specs.Utf8.{first, rest, front}
use Rattle.digits.specs.Digits.{digit_of}
use Rattle.digits.specs.Hex.{empty, bad_digit, overflow, hex_digits, hex_after_plus, hex_value, wrong}
use Rattle.items.specs.Kinds as kind
use Rattle.items.specs.Classes.{in_quotes, after_backslash, stops_hex, in_hex, in_trim}
use Rattle.items.specs.Readers.{scalar_of, past_failing}
use Rattle.items.specs.Meaning.{lookup, words, word_kind, char_names, is_delimiter, nameless, hex_named, spelled_out, character_of, unescape}
use Rattle.items.specs.declared.Quotes.TheVariants.{Double}
use Rattle.items.specs.declared.CharError.TheVariants.{Wrong, WrongAt}
use Rattle.items_promises.specs.Shapes.{room}

-- what `decode` leaves in n bytes of free memory: the text between quotes that stands in `raw` from a place on
abbrev decoded : List ℕ → ℕ → ℕ → List ℕ
decoded raw from n = written (unescape Double (drop from raw)) (room n)

pub record Rows : Type 0 where
  -- word_kind
  pub defn : word_kind (spelled "defn") ≡ kind.Define
  pub set : word_kind (spelled "set!") ≡ kind.Set
  pub other : word_kind (spelled "defined") ≡ kind.Identifier
  -- character: a name, in any case; a letter; digits; errors 9 to 12, of which 11 has the place that fails
  pub escape : character_of false (spelled "escape") ≡ Ok 0x1B
  pub upper : character_of false (spelled "SPACE") ≡ Ok (code " ")
  pub letter : character_of false (spelled "x") ≡ Ok (code "x")
  pub brace : character_of false (spelled "u{3bb}") ≡ Ok (code "λ")
  pub open_brace : character_of false (spelled "u{3bb") ≡ Err (Wrong kind.UnclosedHexEscape (code "}"))
  pub no_name : character_of false (spelled "ab") ≡ Err (Wrong kind.InvalidCharName 0)
  pub bad_digit_holds : character_of false (spelled "xyz") ≡ Err (WrongAt kind.InvalidHexEscapeLiteral 2 1)
  pub surrogate : character_of false (spelled "xD800") ≡ Err (Wrong kind.InvalidHexCodePoint 0xD800)
  -- 02 (vii): in report mode a delimiter in a name is error 13, at the first of them and counted in bytes; but not a name's first character,
  -- not in plain mode, and not in digits
  pub delimiter : character_of true (spelled "a;\"") ≡ Err (WrongAt kind.InvalidCharDelimiter 0 1)
  pub wide : character_of true (spelled "é;") ≡ Err (WrongAt kind.InvalidCharDelimiter 0 2)
  pub begins_so : character_of true (spelled ";a") ≡ Err (Wrong kind.InvalidCharName 0)
  pub alone : character_of true (spelled ";") ≡ Ok (code ";")
  pub unreported : character_of false (spelled "a;") ≡ Err (Wrong kind.InvalidCharName 0)
  pub digits : character_of true (spelled "x4G;") ≡ Err (WrongAt kind.InvalidHexEscapeLiteral bad_digit 2)
  pub no_digits : character_of true (spelled "u{}") ≡ Err (WrongAt kind.InvalidHexEscapeLiteral empty 2)
  -- scalar_of: a character; no character; digits that fail, and where
  pub scalar : scalar_of (Ok 0x3BB) ≡ Ok (code "λ")
  pub no_scalar : scalar_of (Ok 0x110000) ≡ Err (Wrong kind.InvalidHexCodePoint 0x110000)
  pub failing : scalar_of (wrong bad_digit 1) ≡ Err (WrongAt kind.InvalidHexEscapeLiteral bad_digit 1)
  -- past_failing: past all bytes of the character that fails, and of the digit that passes 32 bits; nothing fails where digits should stand
  pub past_wide : past_failing bad_digit 4 (spelled "é1") ≡ 6
  pub past_digit : past_failing overflow 11 (spelled "00") ≡ 12
  pub past_nothing : past_failing empty 3 (spelled "}") ≡ 3
  -- decode: a run of bytes; an escape; of the newlines after a backslash the second stays, and blanks before it go
  pub run : decoded (spelled "\"ab\"") 1 3 ≡ spelled "ab" ++ room 1
  pub null : decoded (spelled "\"\\0\"") 1 2 ≡ 0 ∷ room 1
  pub newlines : decoded (spelled "\"\\\n\na\"") 1 3 ≡ spelled "\na" ++ room 1
  pub tabs : decoded (spelled "\"\\\n\ta\"") 1 2 ≡ spelled "a" ++ room 1
  pub nothing : decoded (spelled "\"\"") 1 1 ≡ room 1
  -- decoded_length
  pub count : length (unescape Double (spelled "\\n\"")) ≡ 1
  -- texts::equal: a text is not the same as one that it begins
  pub longer : map (same (spelled "ab")) (spelled "ab" ∷ spelled "abc" ∷ spelled "a" ∷ []) ≡ true ∷ false ∷ false ∷ []

rows : Rows
-- the list only permits the computing
unfolding span same within is_scalar utf8 encode bytes_of first rest front digit_of hex_digits hex_after_plus hex_value in_quotes after_backslash
    stops_hex in_hex in_trim scalar_of past_failing lookup words word_kind char_names is_delimiter nameless hex_named spelled_out character_of unescape
rows = record {
  defn = refl;
  set = refl;
  other = refl;
  escape = refl;
  upper = refl;
  letter = refl;
  brace = refl;
  open_brace = refl;
  no_name = refl;
  bad_digit_holds = refl;
  surrogate = refl;
  delimiter = refl;
  wide = refl;
  begins_so = refl;
  alone = refl;
  unreported = refl;
  digits = refl;
  no_digits = refl;
  scalar = refl;
  no_scalar = refl;
  failing = refl;
  past_wide = refl;
  past_digit = refl;
  past_nothing = refl;
  run = refl;
  null = refl;
  newlines = refl;
  tabs = refl;
  nothing = refl;
  count = refl;
  longer = refl;
}
