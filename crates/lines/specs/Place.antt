-- "Given an index and a byte place, answer line and column, both from 1, the column in characters."
use Rattle.std.specs.Prelude.{ℕ, ◌+◌, ◌-◌, ◌≤◌, ◌<◌, Bool, false, List, [], ◌∷◌, leb, ltb, length, get_or, if◌then◌else◌, None, Option, Some, Result, Ok, Err}
use Rattle.laws.specs.Texts.{same}
use Rattle.refusal.specs.Refusals.{no_place, alien}
use Rattle.chars.specs.Utf8.{first_bad, Sequence, read, broken, short, sequences}
use Rattle.refusal.specs.Refusals.{limit}
use Rattle.lines.specs.Starts.{starts}
use Rattle.lines.specs.declared.LineColumn.{LineColumn}
use Rattle.lines.specs.declared.LocateError.{LocateError}
use Rattle.lines.specs.declared.LocateError.TheVariants as error

-- line and column, both from 1; or 01's number of a refusal, and what it comes with
pub data Where : Type 0 where
  At : ℕ → ℕ → Where
  Refused : ℕ → ℕ → Where

-- what each answer of the question means
abbrev pub where_of : Result LineColumn LocateError → Where
where_of (Ok found) = At found.line found.column
where_of (Err error.Alien) = Refused alien 0
where_of (Err (error.NoPlace place)) = Refused no_place place

abbrev pub good_and : Option ℕ → Bool → Bool
good_and None t = t
good_and (Some at) t = false

-- an index is a text's if the building call, given room, serves that text and gives that index
unfoldable pub is_index : List ℕ → List ℕ → Bool
is_index s index = if ltb limit (length s) then false else good_and (first_bad s) (same (starts s) index)

-- "The line is the last one that starts at or before the place" p. j is the number of the next line, `found` the last one so far.
unfoldable pub line_of : ℕ → List ℕ → ℕ → ℕ → ℕ
line_of p [] j found = found
line_of p (s ∷ ss) j found = line_of p ss (j + 1) (if leb s p then j else found)

-- The column of place p, by the characters from its line's start on, where n counts those passed, and one more: p is where a character
-- starts or the text ends, or it lies inside a character.
unfoldable pub column : ℕ → ℕ → List Sequence → Option ℕ
column p n [] = Some n
column p n (read c f t ∷ l) = let more = column p (n + 1) l in if leb p f then Some n else if ltb p t then None else more
column p n (broken f t ∷ l) = if leb p f then Some n else None
column p n (short f ∷ l) = if leb p f then Some n else None

-- the characters of a text that start at place a or later
unfoldable pub since : ℕ → List Sequence → List Sequence
since a [] = []
since a (read c f t ∷ l) = let more = since a l in if ltb f a then more else read c f t ∷ l
since a (broken f t ∷ l) = let more = since a l in if ltb f a then more else broken f t ∷ l
since a (short f ∷ l) = let more = since a l in if ltb f a then more else short f ∷ l

abbrev pub answered : ℕ → ℕ → Option ℕ → Where
answered p line (Some n) = At line n
answered p line None = Refused no_place p

-- where the line with this number starts
abbrev pub line_start : List ℕ → ℕ → ℕ
line_start index line = get_or index (line - 1) 0

-- the place p in this line: its column counts the text's characters from the line's start on
abbrev pub located : List ℕ → List ℕ → ℕ → ℕ → Where
located s index p line = answered p line (column p 1 (since (line_start index line) (sequences 0 0 s)))

-- "34 if the place lies past the end or inside a character"; the end is a place
unfoldable pub place_of : List ℕ → List ℕ → ℕ → Where
place_of s index p = if ltb (length s) p then Refused no_place p else located s index p (line_of p index 1 0)

-- "48 if the index isn't that text's, then 34"
unfoldable pub locate_of : List ℕ → List ℕ → ℕ → Where
locate_of s index p = if is_index s index then place_of s index p else Refused alien 0

-- ---- what a search asks for

-- places that rise, all past `lo`
pub data Rise : ℕ → List ℕ → Type 0 where
  none : {lo : ℕ} → Rise lo []
  some : {lo x : ℕ} {l : List ℕ} → lo < x → Rise x l → Rise lo (x ∷ l)

-- a list in which a place can be searched: it rises, and starts at or before the place
pub data Search : List ℕ → ℕ → Type 0 where
  from : {x p : ℕ} {l : List ℕ} → x ≤ p → Rise x l → Search (x ∷ l) p
