-- "The byte place of each line start (after every newline byte)": place 0, and the place after every newline byte. The call that builds
-- the index.
use Rattle.std.specs.Prelude.{ℕ, ◌+◌, List, [], ◌∷◌, eqb, ltb, length, if◌then◌else◌, None, Option, Some, Result, Ok, Err}
use Rattle.laws.specs.Lent.{written}
use Rattle.refusal.specs.Refusals.{over_long, not_utf8, out_of_bounds, lines_no_room, alien}
use Rattle.chars.specs.Utf8.{first_bad}
use Rattle.refusal.specs.Refusals.{limit}
use Rattle.lines.specs.declared.LinesError.{LinesError}
use Rattle.lines.specs.declared.LinesError.TheVariants as error

-- U+000A, which UTF-8 writes as this byte and uses in no other character
abbrev pub newline : ℕ
newline = 0x0A

-- the starts after the newline bytes of a text from place `at` on
unfoldable pub starts_from : ℕ → List ℕ → List ℕ
starts_from at [] = []
starts_from at (b ∷ s) = let more = starts_from (at + 1) s in if eqb b newline then (at + 1) ∷ more else more

-- a line starts at 0 also in an empty text, and one, the last, after a final newline
abbrev pub starts : List ℕ → List ℕ
starts s = 0 ∷ starts_from 0 s

-- served with a count; or 01's number of a refusal, and what it comes with
pub data Told : Type 0 where
  Served : ℕ → Told
  Refused : ℕ → ℕ → Told

-- what each answer of the calls means
abbrev pub told_of : Result ℕ LinesError → Told
told_of (Ok n) = Served n
told_of (Err error.TooLong) = Refused over_long limit
told_of (Err (error.NotUtf8 at)) = Refused not_utf8 at
told_of (Err error.OutOfBounds) = Refused out_of_bounds 0
told_of (Err (error.NoRoom needed)) = Refused lines_no_room needed
told_of (Err error.Alien) = Refused alien 0

-- an answer, and what the lent memory then holds
pub record Outcome : Type 0 where
  pub answer : Told
  pub memory : List ℕ

abbrev pub outcome : Told → List ℕ → Outcome
outcome a m = record { answer = a; memory = m }

-- "33 if the line starts don't fit, with the number needed"; else they are written, and everything past them stays
abbrev pub fit : List ℕ → List ℕ → Outcome
fit l memory = if ltb (length memory) (length l) then outcome (Refused lines_no_room (length l)) memory else outcome (Served (length l)) (written l memory)

abbrev pub if_good : Option ℕ → List ℕ → List ℕ → Outcome
if_good (Some at) l memory = outcome (Refused not_utf8 at) memory
if_good None l memory = fit l memory

-- "20 and 21 first; then 33"
unfoldable pub build_of : List ℕ → List ℕ → Outcome
build_of s memory = if ltb limit (length s) then outcome (Refused over_long limit) memory else if_good (first_bad s) (starts s) memory
