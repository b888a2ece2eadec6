-- Answers as plain numbers, which is all that C passes on: a number and the values that come with it.
use Rattle.std.specs.Prelude.{ℕ}
use Rattle.refusal.specs.Refusals as refusal
use Rattle.lines.specs.Starts.{Told, Served, Refused}
use Rattle.lines.specs.Place.{Where}
use Rattle.lines.specs.Place as located

-- `served` where the call served, else the refusal's number
abbrev pub answer_number : Told → ℕ
answer_number (Served n) = refusal.served
answer_number (Refused number value) = number

-- the count, or what the refusal comes with
abbrev pub answer_value : Told → ℕ
answer_value (Served n) = n
answer_value (Refused number value) = value

abbrev pub located_number : Where → ℕ
located_number (located.At line column) = refusal.served
located_number (located.Refused number place) = number

-- line and column, or what the refusal comes with, and 0
abbrev pub located_first : Where → ℕ
located_first (located.At line column) = line
located_first (located.Refused number place) = place

abbrev pub located_second : Where → ℕ
located_second (located.At line column) = column
located_second (located.Refused number place) = 0
