-- Error 13 exactly where 10 would stand and a delimiter stands after the name's first character (02 (vii)). `t` are the bytes after `#\`.
use Rattle.std.specs.Prelude.{ℕ, ◌+◌, ◌<◌, ◌≡◌, true, false, List, length, get_or, drop, Err}
use Rattle.laws.specs.Quoted.{codes}
use Rattle.laws.specs.Texts.{begins}
use Rattle.items.specs.Kinds as kind
use Rattle.items.specs.declared.CharError.TheVariants.{Wrong, WrongAt}
use Rattle.items.specs.Meaning.{is_delimiter, character_of}
use Rattle.items_coverage.specs.Records.{row_kind, word, start_word}
use Rattle.items_errors.specs.First.{from_word, to_word, extent_of}

-- the first of `;`, `"`, `'`, `,` after the first byte stands at the place p. A first character of more bytes has none of them
pub record Delimited (t : List ℕ) (p : ℕ) : Type 0 where
  pub after : 0 < p
  pub inside : p < length t
  pub one : is_delimiter (get_or t p 0) ≡ true
  pub first : (j : ℕ) → 0 < j → j < p → is_delimiter (get_or t j 0) ≡ false

-- in plain mode the name is error 10
abbrev pub Ten : List ℕ → Type 0
Ten t = character_of false t ≡ Err (Wrong kind.InvalidCharName 0)

-- in report mode it is error 13, which points p bytes after `#\`
abbrev pub Thirteen : List ℕ → ℕ → Type 0
Thirteen t p = character_of true t ≡ Err (WrongAt kind.InvalidCharDelimiter 0 p)

-- none stands after the first byte
abbrev pub Undelimited : List ℕ → Type 0
Undelimited t = (j : ℕ) → 0 < j → j < length t → is_delimiter (get_or t j 0) ≡ false

-- ---- what the whole-text call writes in report mode

-- the name of a record's character: what follows `#\` in its extent
abbrev pub name_of : List ℕ → List ℕ → List ℕ
name_of source row = drop 2 (extent_of source row)

abbrev pub IsName : List ℕ → List ℕ → Type 0
IsName source row = begins (codes "#\\") (extent_of source row) ≡ true

-- error 13: it points at the first delimiter after the name's first character, which is one byte
pub record PointsAtDelimiter (source row : List ℕ) : Type 0 where
  pub name : IsName source row
  pub p : ℕ
  pub delimited : Delimited (name_of source row) p
  pub from : word row from_word ≡ word row start_word + 2 + p
  pub to : word row to_word ≡ word row from_word + 1

-- error 13 where a delimiter stands after the name's first character, error 10 where none does
pub record NameError (source row : List ℕ) : Type 0 where
  pub thirteen : row_kind row ≡ kind.first_error + kind.InvalidCharDelimiter → PointsAtDelimiter source row
  pub ten : row_kind row ≡ kind.first_error + kind.InvalidCharName → IsName source row × Undelimited (name_of source row)
