-- The number call: "takes one text and, after 20 and 21, gives its parts, `no number`, or error 8" (document 01, "Rules that bite").
use Rattle.std.specs.Prelude.{ℕ, List, length, ltb, if◌then◌else◌, None, Option, Some, Result, Ok, Err}
use Rattle.refusal.specs.Refusals.{over_long, not_utf8, limit}
use Rattle.chars.specs.Utf8.{first_bad}
use Rattle.numbers.specs.declared.Parts.{Parts}
use Rattle.numbers.specs.declared.ParseError.TheVariants as parsed
use Rattle.numbers.specs.declared.NumberError.{NumberError}
use Rattle.numbers.specs.declared.NumberError.TheVariants as answer
use Rattle.numbers.specs.Grammar.{parse_number, Parsed}

-- what the call may say: a number's parts, "no number", an error by its number, a refusal by its number with what it comes with
pub data Answer : Type 0 where
  parts : Parts → Answer
  no_number : Answer
  error : ℕ → Answer
  refused : ℕ → ℕ → Answer

-- the error ZeroDenominator
abbrev pub zero_denominator : ℕ
zero_denominator = 8

-- the code's answer
abbrev pub NumberAnswer : Type 0
NumberAnswer = Result Parts NumberError

-- the numbers and values of 01 for each case of the code's answer
abbrev pub answered : NumberAnswer → Answer
answered (Ok p) = parts p
answered (Err answer.NoNumber) = no_number
answered (Err answer.ZeroDenominator) = error zero_denominator
answered (Err answer.TooLong) = refused over_long limit
answered (Err (answer.NotUtf8 at)) = refused not_utf8 at

abbrev pub given : Parsed → Answer
given (Ok p) = parts p
given (Err parsed.NoNumber) = no_number
given (Err parsed.ZeroDenominator) = error zero_denominator

-- an answer to a text that is UTF-8
abbrev pub checked : Option ℕ → Answer → Answer
checked None a = a
checked (Some at) a = refused not_utf8 at

-- "20: the text exceeds 4,294,967,295 bytes. 21: bytes aren't UTF-8", in that order (01, Refused calls)
unfoldable pub number : List ℕ → Answer
number t = if ltb limit (length t) then refused over_long limit else checked (first_bad t) (given (parse_number t))
