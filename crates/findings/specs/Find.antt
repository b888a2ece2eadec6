-- The findings of a plan, and what the call answers.
use Rattle.std.specs.Prelude.{ℕ, ◌/◌, List, [], ◌∷◌, leb, ltb, length, if◌then◌else◌, None, Option, Some, Result, Ok, Err}
use Rattle.refusal.specs.Refusals as refusal
use Rattle.chars.specs.Utf8.{first_bad}
use Rattle.items.specs.Items.{record_words}
use Rattle.items.specs.Whole.{limit}
use Rattle.findings_rows.specs.Laid.{flat, laid_rows}
use Rattle.findings_rows.specs.Rows.{rows_of}
use Rattle.findings.specs.Finding.{error, single, no_detail}
use Rattle.findings.specs.Rows.{byte_at}
use Rattle.findings.specs.Told.{told_of, errors_in}
use Rattle.findings.specs.Laid.{counted, laid_findings}
use Rattle.findings.specs.declared.Finding.{Finding}
use Rattle.findings.specs.declared.Counted.{Counted}
use Rattle.findings.specs.declared.TooFew.{TooFew}

-- E20: the text exceeds the limit
abbrev pub over_long : Finding
over_long = single error refusal.over_long no_detail 0 0

-- E21 with the bad byte: a bad sequence starts at b, which is no character's place
abbrev pub not_utf8 : List ℕ → ℕ → Finding
not_utf8 source b = single error refusal.not_utf8 (byte_at source b) b b

-- what is told of a text: all of it if it is UTF-8, else its first bad sequence alone
abbrev pub told_if : Option ℕ → List ℕ → List Finding
told_if None source = told_of source (flat (rows_of source))
told_if (Some b) source = not_utf8 source b ∷ []

-- the findings of a plan
unfoldable pub find_of : List ℕ → List Finding
find_of source = if ltb limit (length source) then over_long ∷ [] else told_if (first_bad source) source

-- ---- the call

abbrev pub rows_if : Option ℕ → List ℕ → List (List ℕ)
rows_if None source = rows_of source
rows_if (Some b) source = []

-- the rows that the call needs room for; a text that is not read has none
unfoldable pub needed_rows : List ℕ → List (List ℕ)
needed_rows source = if ltb limit (length source) then [] else rows_if (first_bad source) source

-- so many findings, and so many of them errors
abbrev pub found : ℕ → ℕ → Result Counted TooFew
found n e = Ok (counted n e)

-- the rows do not fit; so many are needed
abbrev pub too_few : ℕ → Result Counted TooFew
too_few n = Err (record { rows = n })

-- an answer, and what both lent memories then hold
pub record Outcome : Type 0 where
  pub answer : Result Counted TooFew
  pub rows : List ℕ
  pub findings : List ℕ

abbrev pub outcome : Result Counted TooFew → List ℕ → List ℕ → Outcome
outcome a r f = record { answer = a; rows = r; findings = f }

-- the findings, and the rows as working memory; 22 if the rows do not fit, with their number, and the findings' memory stays
abbrev pub delivered : List Finding → List (List ℕ) → List ℕ → List ℕ → Outcome
delivered fs needed rows findings =
    if leb (length needed) (length rows / record_words)
    then outcome (found (length fs) (errors_in fs)) (laid_rows needed rows) (laid_findings fs findings)
    else outcome (too_few (length needed)) (laid_rows needed rows) findings

unfoldable pub call_of : List ℕ → List ℕ → List ℕ → Outcome
call_of source rows findings = delivered (find_of source) (needed_rows source) rows findings
