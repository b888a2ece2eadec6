-- A number's parts. Document 01: "A number's parts are what the number call gives for its extent." Here: it does give parts.
use Rattle.std.specs.Prelude.{ℕ, ◌-◌, ◌≡◌, true, List, take, drop, eqb}
use Rattle.numbers.specs.declared.Parts.{Parts}
use Rattle.numbers.specs.Call.{parts, number}
use Rattle.items.specs.Kinds as kind
use Rattle.pieces.specs.Given.{Given}
use Rattle.items_coverage.specs.Records.{start_word, end_word, word, row_kind, given_kind}

-- the bytes of a text from one place to another
abbrev pub between : ℕ → ℕ → List ℕ → List ℕ
between from to bytes = take (to - from) (drop from bytes)

-- the number call on a text gives parts: not "no number", no error, no refusal
abbrev pub HasParts : List ℕ → Type 0
HasParts text = (p : Parts) × (number text ≡ parts p)

-- a record of a source: if its kind is Number, its extent has parts
abbrev pub RowHasParts : List ℕ → List ℕ → Type 0
RowHasParts source row = eqb (row_kind row) kind.Number ≡ true → HasParts (between (word row start_word) (word row end_word) source)

-- an item that a piece call gave: if its kind is Number, the text that came with it is its extent, and has parts
pub record GivenHasParts (bytes : List ℕ) (g : Given) : Type 0 where
  pub extent : eqb (given_kind g) kind.Number ≡ true → g.text ≡ between (word g.words start_word) (word g.words end_word) bytes
  pub parts : eqb (given_kind g) kind.Number ≡ true → HasParts g.text
