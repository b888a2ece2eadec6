-- R7RS 7.1.1: <token>, and <comment>, all productions in one: a text that may stand before cs, the kind and the detail of its item, and
-- what its item's text spells.
use Rattle.std.specs.Prelude.{ℕ, ◌≡◌, Bool, List, ◌++◌}
use Rattle.laws.specs.Quoted.{codes}
use Rattle.chars.specs.Encode.{bytes_of}
use Rattle.numbers.specs.declared.Parts.{Parts}
use Rattle.numbers_difference.specs.Conditions.{NumberText, SignBelowSlash}
use Rattle.items.specs.Meaning.{word_kind}
use Rattle.items.specs.Kinds as kind
use Rattle.items_r7rs.specs.Reading.{Spelling, nothing, bytes}
use Rattle.items_r7rs.specs.Delimiter.{delimiters, hash_delimiters, number_delimiters, Ends}
use Rattle.items_r7rs.specs.Boolean.{Boolean, truth}
use Rattle.items_r7rs.specs.Punctuation.{Punctuation, MayFollow}
use Rattle.items_r7rs.specs.Comment.{LineComment, LineEnd, NestedComment}
use Rattle.items_r7rs.specs.String.{StringText}
use Rattle.items_r7rs.specs.Character.{CharacterText}
use Rattle.items_r7rs.specs.Identifier.{Plain, Peculiar, Unsplit, Lined}
use Rattle.items_r7rs.specs.Number.{RealText}
use Rattle.items_r7rs.specs.Written.{Written}

pub data Token (report : Bool) (cs : List ℕ) : List ℕ → ℕ → ℕ → Spelling → Type 0 where
  boolean : {t : List ℕ} {b : Bool} → Boolean t b → Ends hash_delimiters cs → Token report cs t kind.BooleanLiteral (truth b) nothing
  character : {t : List ℕ} {c : ℕ} → CharacterText t c → Ends hash_delimiters cs → Token report cs t kind.CharacterLiteral c nothing
  string : {t v : List ℕ} → StringText t v → Token report cs t kind.StringLiteral 0 (bytes (bytes_of v))
  -- Departure: the Rust has kinds of their own for some identifiers. `if`
  identifier : {t : List ℕ} → Plain t → word_kind (bytes_of t) ≡ kind.Identifier → Ends delimiters cs → Token report cs t kind.Identifier 0 (bytes (bytes_of t))
  -- "Note that +i, -i and <infnan> below are exceptions to the <peculiar identifier> rule; they are parsed as numbers, not identifiers":
  -- so is any text that is also a number. Departure: a polar number with a sign below the slash is a number too (B18)
  peculiar : {t : List ℕ} → Peculiar t → Unsplit t → (NumberText (bytes_of t) → ⊥) → (SignBelowSlash (bytes_of t) → ⊥) → word_kind (bytes_of t) ≡ kind.Identifier → Ends delimiters cs
      → Token report cs t kind.Identifier 0 (bytes (bytes_of t))
  lined : {t v : List ℕ} → Lined t v → Token report cs t kind.Identifier 0 (bytes (bytes_of v))
  -- a number of radix 10 with no prefix and one part, and any number
  number : {t : List ℕ} → RealText t → Ends (number_delimiters report) cs → Token report cs t kind.Number 0 nothing
  any_number : {t : List ℕ} {a : Parts} → Written t a → Ends (number_delimiters report) cs → Token report cs t kind.Number 0 nothing
  punctuation : {t : List ℕ} {k d : ℕ} (p : Punctuation t k d) → MayFollow p cs → Token report cs t k d nothing
  line_comment : (t e : List ℕ) → LineComment t → LineEnd e cs → Token report cs (t ++ e) kind.Comment 0 nothing
  nested_comment : {t : List ℕ} → NestedComment t → Token report cs t kind.Comment 0 nothing
  datum_comment : Token report cs (codes "#;") kind.DatumComment 0 nothing
