-- Worked examples: what is lent, what the call answers and leaves in the memory, how what it wrote reads back, and that writing this again
-- gives the same text. One table, one statement, proved by computation. 20 is shown with a limit of 5 bytes.
use Rattle.std.specs.Prelude.{ℕ, ◌+◌, ◌≡◌, refl, Bool, true, false, List, [], ◌∷◌, ◌++◌, map, length, take, replicate, Err}
use Prim.Native.String.{String}
use Rattle.laws.specs.Quoted.{within}
use Rattle.laws.specs.Texts.{span, starts, begins, same}
use Rattle.refusal.specs.Refusals as refusal
use Rattle.chars.specs.Encode.{is_scalar, utf8, width, encode, bytes_of, spelled}
use Rattle.chars.specs.Blank.{is_blank}
use Rattle.chars.specs.Utf8.{first, rest, front, sequences, chars, first_bad}
use Rattle.digits.specs.Digits.{digit_of, sign, uinteger, value, fit, signed, whole_of, integer}
use Rattle.digits.specs.Hex.{hex_digits, hex_after_plus, hex_value}
use Rattle.numbers.specs.Reals.{exponent_marker, exponent, suffix, point_of, dotted, undotted, decimal, infnan, integral_of, rational_of, denominator, exact, or_else, ureal, real}
use Rattle.numbers.specs.Grammar.{just_of, complex_of, polar_of, ends_i, imaginary, alone_of, pair_of, to_sign, starts_e, rectangular, complex}
use Rattle.numbers.specs.Grammar.{zero_int, zero_real, zero_parts, judged, radix_mark, prefix, parse_number}
use Rattle.numbers.specs.declared.ParseError.TheVariants.{NoNumber}
use Rattle.items.specs.Kinds as kind
use Rattle.items_r7rs.specs.Reading.{bytes}
use Rattle.items.specs.Classes.{starts_run, first_of, in_quotes, after_backslash, stops_hex, in_hex, in_trim, in_nest, breaks_word, in_word, stays_run, ends_run, in_run, after_hash, ends_hash, in_hash, in_delim}
use Rattle.items.specs.Readers.{read_line, lined_of, scalar_of, past_failing, read_word, read_run, bool_kind, quote_kind, form_kind, hash_kind}
use Rattle.items.specs.Readers.{hash_bracket, hash_at, hash_comma, unreturned, ends_with, here_ends, here_body, here_delim, after_angle}
use Rattle.items.specs.Readers.{read_hash, read_comma, read_item, read_nest, read_quoted, read_word_on, hash_on}
use Rattle.items.specs.Meaning.{lookup, words, word_kind, word_means, run_means, escaped, string_text, lined_text, here_text, char_names}
use Rattle.items.specs.Meaning.{is_delimiter, nameless, hex_named, spelled_out, character_of, unescape}
use Rattle.items.specs.Items.{extent_items, items_from, past_line, after_pound, items, kept, records, texts, Item}
use Rattle.items_writing.specs.Written.{escape, quoted, bare, splits, identifier, word_of, twins, joined, written, entries, reads}
use Rattle.items_writing.specs.Shapes.{Shape, shape, number_of, shapes}
use Rattle.items_writing.specs.Records.{records_from, is_whole, is_kind, has_text, text_right, is_right, is_left, judge, text_of}
use Rattle.items_writing.specs.Call.{Answer, served, refused, Call, call, deliver, write_within}

-- what is lent: records, source and text memory, so many bytes of memory to write to, each of them 0; and the limit
record Lent : Type 0 where
  most : ℕ
  records : List ℕ
  source : List ℕ
  text : List ℕ
  room : ℕ

-- the call, the shapes of what is read from the result, and what is written for that
record Given : Type 0 where
  call : Call
  back : List Shape
  again : List ℕ

record Example : Type 0 where
  lent : Lent
  wanted : Given

abbrev shapes_of : List ℕ → List Shape
shapes_of s = shapes s (kept true (reads s))

abbrev result : Answer → List ℕ → List ℕ
result (served n) out = take n out
result (refused n a) out = []

abbrev given_of : Lent → Given
given_of l =
    let c : Call = write_within l.most l.records l.source l.text (replicate l.room 0) in
    let w : List ℕ = result c.answer c.out in
    record { call = c; back = shapes_of w; again = written true (entries w (reads w)) }

-- the records of a text as they are read, comments left out or not
abbrev lent_of : ℕ → Bool → List ℕ → ℕ → Lent
lent_of most skip s room =
    let is : List Item = kept skip (items true (chars s)) in
    record { most = most; records = records 0 0 is; source = s; text = texts is; room = room }

-- a text, and the text that is written for its items. It reads back as they do and is then written
-- alike, and one byte of the memory is left as it was
abbrev gives : String → String → Example
gives s t = record {
  lent = lent_of refusal.limit true (spelled s) (length (spelled t) + 1);
  wanted = record { call = call (served (length (spelled t))) (spelled t ++ (0 ∷ [])); back = shapes_of (spelled s); again = spelled t };
}

-- what is refused; the memory stays
abbrev refuses : Lent → ℕ → ℕ → Example
refuses l n a = record { lent = l; wanted = record { call = call (refused n a) (replicate l.room 0); back = []; again = [] } }

-- the records of a text, its comments kept
abbrev lent_as : String → ℕ → Lent
lent_as s room = lent_of refusal.limit false (spelled s) room

-- one record: kind, extent, text source and places
abbrev one : ℕ → ℕ → ℕ → ℕ → ℕ → ℕ → List ℕ
one k s e o f p = k ∷ 0 ∷ s ∷ e ∷ s ∷ e ∷ o ∷ f ∷ p ∷ 0 ∷ []

-- records of a source, with a text memory
abbrev over : String → String → List ℕ → Lent
over s t rs = record { most = refusal.limit; records = rs; source = spelled s; text = spelled t; room = 6 }

abbrev edited : List ℕ → Lent
edited rs = over "é" "a b" rs

abbrev name : String → Shape
name s = shape kind.Identifier 0 (bytes (spelled s)) (Err NoNumber)

-- what is written for such records, and the names that it reads back as
abbrev writes : Lent → String → List Shape → Example
writes l t names = record {
  lent = l;
  wanted = record { call = call (served (length (spelled t))) (take l.room (spelled t ++ replicate l.room 0)); back = names; again = spelled t };
}

table : List Example
table =
    gives "" ""
    ∷ gives "(a 14.7;gps\n" "( a 14.7"
    ∷ gives "+foo" "+foo"
    ∷ gives "+12,5" "+ |12| , 5"
    ∷ gives "12,5" "|12| , 5"
    ∷ gives "+i'+i" "+ i ' +i"
    ∷ gives "{1}" "{ |1| }"
    ∷ gives "1/0'" "|1/0| '"
    ∷ gives "||" "||"
    ∷ gives "|if| if" "|if| if"
    ∷ gives "|.| . |...| ..." "|.| . |...| ..."
    ∷ gives "|a b| |a| |+a| |+|" "|a b| a |+a| +"
    ∷ gives "12|Birch|" "12 Birch"
    -- a plus before a vertical line is a pair too, unless it is a number; a pair that is not closed is two identifiers
    ∷ gives "+|a| +|a b|" "+|a| +|a b|"
    ∷ gives "+5|a| +e|a| +x|a|" "+5 a +e|a| +x|a|"
    ∷ gives "+|a" "+ |\\|a|"
    ∷ gives "é |é λ|λ" "é |é λ| λ"
    -- a first line is not written back, and a word that would be one stands in lines
    ∷ gives "#!x\n#!y #!z" "|#!y| #!z"
    -- a backslash at the end of a word: bare only where nothing follows
    ∷ gives "a\\" "a\\"
    ∷ gives "|a\\\\| b" "|a\\\\| b"
    ∷ gives "+a\\" "+ a\\"
    ∷ gives "#:a\\" "#:a\\"
    ∷ gives "a\\ b" "a\\ b"
    -- E14 and E9: a name of a backslash and a newline; a name that ends in a vertical line
    ∷ gives "|\\\n|" "\\\n"
    ∷ gives "|a\\|" "a|"
    ∷ gives "|\\|" "|\\||"
    -- strings, and a here-string; both escapes, and a newline as it is
    ∷ gives "\"a\\\"b\\\\c\\n|\"x" "\"a\\\"b\\\\c\n|\" x"
    ∷ gives "|a\\|b\"\\n|" "|a\\|b\"\n|"
    ∷ gives "#<<\nabc" "\"a\" bc"
    -- extents
    ∷ gives "#\\ (#\\()" "#\\  ( #\\( )"
    ∷ gives ",@a , @b #,@c" ",@ a , @b #,@ c"
    ∷ gives "#u8(#(#[" "#u8( #( # ["
    -- an edited name; words past the last whole record belong to none
    ∷ writes (edited (one kind.Identifier 0 2 2 0 3)) "|a b|" (name "a b" ∷ [])
    ∷ writes (edited (one kind.Identifier 0 2 2 0 1 ++ (7 ∷ []))) "a" (name "a" ∷ [])
    -- a pair whose second name was edited: one word where it still reads back as the pair
    ∷ writes (over "+x" "foo" (one kind.Identifier 0 2 1 0 1 ++ one kind.Identifier 0 2 2 0 3)) "+foo" (name "+" ∷ name "foo" ∷ [])
    ∷ writes (over "+x" "1" (one kind.Identifier 0 2 1 0 1 ++ one kind.Identifier 0 2 2 0 1)) "+ |1|" (name "+" ∷ name "1" ∷ [])
    ∷ writes (over "+x" "|a|" (one kind.Identifier 0 2 1 0 1 ++ one kind.Identifier 0 2 2 0 3)) "+|a|" (name "+" ∷ name "|a|" ∷ [])
    -- 48: a kind that is none, an extent or a text that is cut or not there, no text where the kind has one
    ∷ refuses (edited (one 32 0 2 0 0 0)) refusal.alien 0
    ∷ refuses (edited (one 100 0 2 0 0 0)) refusal.alien 0
    ∷ refuses (edited (one 114 0 2 0 0 0)) refusal.alien 0
    ∷ refuses (edited (one kind.If 0 1 0 0 0)) refusal.alien 0
    ∷ refuses (edited (one kind.If 0 3 0 0 0)) refusal.alien 0
    ∷ refuses (edited (one kind.If 2 0 0 0 0)) refusal.alien 0
    ∷ refuses (edited (one kind.If 0 2 3 0 0)) refusal.alien 0
    ∷ refuses (edited (one kind.Identifier 0 2 0 0 0)) refusal.alien 0
    ∷ refuses (edited (one kind.Identifier 0 2 1 1 2)) refusal.alien 0
    ∷ refuses (edited (one kind.Identifier 0 2 2 0 4)) refusal.alien 0
    -- the first record concerned; at one record 48 before 47
    ∷ refuses (edited (one kind.Identifier 0 2 1 0 2 ++ one 32 0 2 0 0 0)) refusal.alien 1
    ∷ refuses (edited (one kind.Comment 0 2 0 0 0 ++ one 32 0 2 0 0 0)) refusal.unwritten 0
    ∷ refuses (edited (one kind.Comment 0 1 0 0 0)) refusal.alien 0
    -- 47: a comment, an error
    ∷ refuses (lent_as ";a" 9) refusal.unwritten 0
    ∷ refuses (lent_as "(##" 9) refusal.unwritten 1
    ∷ refuses (lent_as "-|a|" 9) refusal.unwritten 0
    -- 20, before 22; 22 with the bytes needed
    ∷ refuses (lent_of 5 true (spelled "ab cde") 0) refusal.over_long 5
    ∷ refuses (lent_as "ab cd" 4) refusal.too_few 5
    ∷ refuses (lent_as "|a b|" 4) refusal.too_few 5
    ∷ []

computed : map (λ r. given_of r.lent) table ≡ map (λ r. r.wanted) table
-- the list only permits the computing
unfolding table span starts begins same is_scalar utf8 width encode bytes_of is_blank within first rest front sequences chars first_bad digit_of sign
    uinteger value fit signed whole_of integer hex_digits hex_after_plus hex_value exponent_marker exponent suffix point_of dotted undotted decimal
    infnan integral_of rational_of denominator exact or_else ureal real just_of complex_of polar_of ends_i imaginary alone_of pair_of to_sign starts_e
    rectangular complex zero_int zero_real zero_parts judged radix_mark prefix parse_number starts_run first_of in_quotes after_backslash stops_hex in_hex
    in_trim in_nest breaks_word in_word stays_run ends_run in_run after_hash ends_hash in_hash in_delim read_line lined_of scalar_of past_failing read_word
    read_run bool_kind quote_kind form_kind hash_kind hash_bracket hash_at hash_comma unreturned ends_with here_ends here_body here_delim after_angle
    read_hash read_comma read_item read_nest read_quoted read_word_on hash_on lookup words word_kind word_means run_means escaped string_text lined_text
    here_text char_names is_delimiter nameless hex_named spelled_out character_of unescape extent_items items_from past_line after_pound items kept
    records texts escape quoted bare splits identifier word_of twins joined written number_of records_from is_whole is_kind has_text text_right
    is_right is_left judge text_of deliver write_within
computed = refl
