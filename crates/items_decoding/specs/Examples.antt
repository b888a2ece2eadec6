-- Items in quotes, their elements and the text that they are given, E9, E11 and E14 among them. One table under one statement, proved by
-- computation.
use Rattle.std.specs.Prelude.{ℕ, ◌≡◌, refl, false, List, [], ◌∷◌, ◌++◌, map, length, drop}
use Prim.Native.String.{String}
use Rattle.laws.specs.Quoted.{codes, within}
use Rattle.chars.specs.Encode.{is_scalar, utf8, width, encode, bytes_of, spelled}
use Rattle.digits.specs.Digits.{digit_of}
use Rattle.digits.specs.Hex.{hex_digits, hex_after_plus, hex_value}
use Rattle.items.specs.declared.Quotes.{Quotes}
use Rattle.items.specs.declared.Quotes.TheVariants.{Double, Lines}
use Rattle.items.specs.declared.Outcome.{Outcome}
use Rattle.items.specs.declared.Outcome.TheVariants.{Str, Lined}
use Rattle.items.specs.Classes.{starts_run, first_of, delim_of, in_quotes, after_backslash, stops_hex, in_hex, in_trim}
use Rattle.items.specs.Meaning.{Text, source, decoded, escaped, string_text, lined_text, unescape}
use Rattle.items.specs.Readers.{so_far, got, lined_of, scalar_of, read_quoted, read_item}
use Rattle.items_decoding.specs.Elements.{Part, written, value}

abbrev part : String → List ℕ → Part
part w v = record { written = codes w; value = v }

-- an item, what closes it, its elements, and the text that it is given
record Row : Type 0 where
  quotes : Quotes
  item : String
  closed : String
  parts : List Part
  text : Text

abbrev string : String → List Part → Text → Row
string i ps t = record { quotes = Double; item = i; closed = "\""; parts = ps; text = t }

abbrev lined : String → String → List Part → Text → Row
lined i c ps t = record { quotes = Lines; item = i; closed = c; parts = ps; text = t }

rows : List Row
rows =
    -- E9: the last vertical line is an escape's, and the text ends
    lined "|a\\|" "" (part "a" (spelled "a") ∷ part "\\|" (spelled "|") ∷ []) (decoded (spelled "a|"))
    -- E11
    ∷ string "\"\\x+41;\"" (part "\\x+41;" (spelled "A") ∷ []) (decoded (spelled "A"))
    -- E14: nothing is left of a line that goes on, and the text is the two characters as they are written
    ∷ lined "|\\\n|" "|" (part "\\\n" [] ∷ []) (source 1 3)
    ∷ string "\"\\\n\"" (part "\\\n" [] ∷ []) (decoded [])
    ∷ string "\"\\u{3bb}\"" (part "\\u{3bb}" (0xCE ∷ 0xBB ∷ []) ∷ []) (decoded (spelled "λ"))
    ∷ lined "|\\u3BB;b|" "|" (part "\\u3BB;" (0xCE ∷ 0xBB ∷ []) ∷ part "b" (spelled "b") ∷ []) (decoded (spelled "λb"))
    ∷ string "\"é\\0\"" (part "é" (spelled "é") ∷ part "\\0" (0 ∷ []) ∷ []) (decoded (0xC3 ∷ 0xA9 ∷ 0 ∷ []))
    -- a second newline stays
    ∷ string "\"a\\ \n\t\n\"" (part "a" (spelled "a") ∷ part "\\ \n\t" [] ∷ part "\n" (spelled "\n") ∷ []) (decoded (spelled "a\n"))
    -- no escape
    ∷ string "\"λ|\"" (part "λ" (0xCE ∷ 0xBB ∷ []) ∷ part "|" (spelled "|") ∷ []) (source 1 4)
    ∷ []

abbrev outcome_of : Quotes → Outcome
outcome_of Double = Str
outcome_of Lines = Lined

abbrev text_of : Quotes → List ℕ → Text
text_of Double raw = string_text 0 (length raw) raw
text_of Lines raw = lined_text 0 (length raw) raw

-- the elements make up the item; it is read, in plain mode; decoded it is what they stand for; and this is its text
computed : (map (λ r. delim_of r.quotes ∷ written r.parts ++ codes r.closed) rows ≡ map (λ r. codes r.item) rows)
    × ((map (λ r. read_item false 0 (delim_of r.quotes) (drop 1 (codes r.item))) rows
    ≡ map (λ r. got (outcome_of r.quotes) (so_far (spelled r.item) (length (spelled r.item))) []) rows)
    × ((map (λ r. unescape r.quotes (drop 1 (spelled r.item))) rows ≡ map (λ r. value r.parts) rows)
    × (map (λ r. text_of r.quotes (spelled r.item)) rows ≡ map (λ r. r.text) rows)))
-- the list only permits the computing
unfolding rows written value within is_scalar utf8 width encode bytes_of digit_of hex_digits hex_after_plus hex_value starts_run first_of in_quotes
    after_backslash stops_hex in_hex in_trim lined_of scalar_of read_quoted read_item escaped string_text lined_text unescape
computed = (refl, (refl, (refl, refl)))
