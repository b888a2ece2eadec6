-- The three sentences of request (xiii), of any text and any records.
use Rattle.std.specs.Prelude.{ℕ, suc, ◌+◌, ◌≤◌, ◌<◌, ◌≡◌, true, List, ◌⊎◌, length, get_or, take, drop}
use Rattle.laws.specs.Quoted.{code}
use Rattle.chars.specs.Blank.{is_blank}
use Rattle.chars.specs.Encode.{utf8}
use Rattle.items.specs.Kinds as kind
use Rattle.items_coverage.specs.Covered.{Seen, seen, opening}

-- the i-th record, from 0
abbrev pub nth : List Seen → ℕ → Seen
nth rs i = get_or rs i (seen 0 0 0)

-- "a `+` pair": two identifiers of one extent, which starts with a plus
pub record Pair (bytes : List ℕ) (q r : Seen) : Type 0 where
  pub first : q.kind ≡ kind.Identifier
  pub second : r.kind ≡ kind.Identifier
  pub start : q.start ≡ r.start
  pub end : q.end ≡ r.end
  pub plus : get_or bytes q.start 0 ≡ code "+"

-- "extents come in order and don't overlap, except that the second item of a `+` pair repeats the first's extent"
abbrev pub InOrder : List ℕ → List Seen → Type 0
InOrder bytes rs =
    (i j : ℕ) → i < j → j < length rs → ((nth rs i).end ≤ (nth rs j).start) ⊎ ((j ≡ suc i) × Pair bytes (nth rs i) (nth rs j))

-- no extent is empty, none passes the end
abbrev pub InText : List ℕ → List Seen → Type 0
InText bytes rs = (i : ℕ) → i < length rs → ((nth rs i).start < (nth rs i).end) × ((nth rs i).end ≤ length bytes)

-- where the byte at the place p belongs
pub data Belongs (bytes : List ℕ) (rs : List Seen) (p : ℕ) : Type 0 where
  to_extent : (i : ℕ) → i < length rs → (nth rs i).start ≤ p → p < (nth rs i).end → Belongs bytes rs p
  to_blank : (c from : ℕ) → is_blank c ≡ true → take (length (utf8 c)) (drop from bytes) ≡ utf8 c → from ≤ p → p < from + length (utf8 c) → Belongs bytes rs p
  to_opening : p < opening bytes → Belongs bytes rs p

-- "every byte outside them belongs to a blank or to the opening `#!` line"
abbrev pub NoneUnseen : List ℕ → List Seen → Type 0
NoneUnseen bytes rs = (p : ℕ) → p < length bytes → Belongs bytes rs p

-- "items never outnumber bytes"
abbrev pub NotMore : List ℕ → List Seen → Type 0
NotMore bytes rs = length rs ≤ length bytes
