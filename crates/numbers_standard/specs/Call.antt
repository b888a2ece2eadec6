-- The number call with a choice of reader: "Refusals: 39 for an unknown choice, before 20 and 21" (document 02, a second number reader).
use Rattle.std.specs.Prelude.{ℕ, List, length, ltb, eqb, if◌then◌else◌, Result, Ok, Err}
use Rattle.refusal.specs.Refusals.{over_long, limit, unknown_choice}
use Rattle.chars.specs.Utf8.{first_bad}
use Rattle.numbers.specs.Call.{Answer, parts, refused, answered, given, checked, number}
use Rattle.numbers.specs.declared.Parts.{Parts}
use Rattle.numbers_standard.specs.declared.NumberByError.{NumberByError}
use Rattle.numbers_standard.specs.declared.NumberByError.TheVariants.{Number, UnknownChoice}
use Rattle.numbers_standard.specs.Grammar.{parse_standard}

-- the choices: the bought reader, and the standard's
abbrev pub bought : ℕ
bought = 0

abbrev pub standard : ℕ
standard = 1

-- the code's answer
abbrev pub NumberByAnswer : Type 0
NumberByAnswer = Result Parts NumberByError

-- the numbers and values for each case of the code's answer: 39 comes with 0
abbrev pub answered_by : NumberByAnswer → Answer
answered_by (Ok p) = parts p
answered_by (Err (Number e)) = answered (Err e)
answered_by (Err UnknownChoice) = refused unknown_choice 0

-- the number call with the standard's reader: 20 and 21 as with the bought one
unfoldable pub by_standard : List ℕ → Answer
by_standard t = if ltb limit (length t) then refused over_long limit else checked (first_bad t) (given (parse_standard t))

-- the number call with the reader of a choice
unfoldable pub number_by : ℕ → List ℕ → Answer
number_by choice t =
    if eqb choice bought then number t
    else if eqb choice standard then by_standard t
    else refused unknown_choice 0
