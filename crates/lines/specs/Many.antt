-- The question for many places at once: the index is held against the text once, and each place gets the plain question's answer.
use Rattle.std.specs.Prelude.{ℕ, ◌*◌, List, [], ◌∷◌, ltb, length, if◌then◌else◌}
use Rattle.laws.specs.Lent.{written}
use Rattle.refusal.specs.Refusals.{lines_no_room, alien}
use Rattle.lines.specs.Starts.{Served, Refused, Outcome, outcome}
use Rattle.lines.specs.Place.{Where, is_index, locate_of}
use Rattle.lines.specs.Place as located

-- an answer as two numbers: line and column, or 0, which no line has, and the refusal's number
abbrev pub line_word : Where → ℕ
line_word (located.At line column) = line
line_word (located.Refused number place) = 0

abbrev pub column_word : Where → ℕ
column_word (located.At line column) = column
column_word (located.Refused number place) = number

-- the answers to places one after the other, in their order
unfoldable pub answers : List ℕ → List ℕ → List ℕ → List ℕ
answers s index [] = []
answers s index (p ∷ ps) = let more = answers s index ps in let r = locate_of s index p in line_word r ∷ column_word r ∷ more

-- 48 first, then 33 with the numbers needed, two for each place; refused, nothing is written
unfoldable pub locate_all_of : List ℕ → List ℕ → List ℕ → List ℕ → Outcome
locate_all_of s index places memory =
    if is_index s index
    then
    (if ltb (length memory) (2 * length places)
    then outcome (Refused lines_no_room (2 * length places)) memory
    else outcome (Served (length places)) (written (answers s index places) memory))
    else outcome (Refused alien 0) memory
