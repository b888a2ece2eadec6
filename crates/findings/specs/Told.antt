-- What each row tells, and all that a plan tells: row after row.
use Rattle.std.specs.Prelude.{ℕ, zero, suc, ◌+◌, Bool, ◌&&◌, List, [], ◌∷◌, ◌++◌, eqb, ltb, if◌then◌else◌, None, Option, Some}
use Rattle.laws.specs.Quoted.{code}
use Rattle.items.specs.Kinds as kind
use Rattle.nested.specs.Items.{count_of}
use Rattle.findings.specs.Finding.{warning, error, both, single, listed, no_detail, swallowing, modes_differ}
use Rattle.findings.specs.Rows.{byte_at, row_at, last_row, bytes_on}
use Rattle.findings.specs.Lists.{list_of}
use Rattle.findings.specs.Slips.{is_name, name_told, swallower, ends_otherwise}
use Rattle.findings.specs.declared.Finding.{Finding}
use Rattle.findings.specs.declared.Row.{Row}
use Rattle.findings.specs.declared.ListTold.{ListTold}

-- ---- a text that is not closed

-- the last row is a text with no closing quote
unfoldable pub ends_in_text : List ℕ → List ℕ → Bool
ends_in_text source rows = eqb (last_row rows).error kind.IncompleteString && eqb (byte_at source (last_row rows).start) (code "\"")

-- An earlier text has swallowed lines, so that quotes are paired wrongly from there on: the closing quote is missing there, and the last
-- quote is left over
abbrev pub left_over : List ℕ → List ℕ → Bool
left_over source rows = ltb (swallower source rows) (count_of rows) && ends_in_text source rows

-- ---- a row. `first` is the swallower, `left` says that a quote is left over

-- the end of an error's place: of what is not closed only its first byte, of a comment the first two
unfoldable pub error_end : Row → ℕ
error_end r =
    if eqb r.error kind.IncompleteString then bytes_on 1 r.from
    else if eqb r.error kind.IncompleteIdentifier then bytes_on 1 r.from
    else if eqb r.error kind.IncompleteComment then bytes_on 2 r.from
    else r.to

-- an error's row, as it is
abbrev pub error_of : Row → Option Finding
error_of r = Some (single error r.error r.about r.from (error_end r))

-- E01 to E13; a left-over quote is told where the closing one is missing
unfoldable pub error_told : List ℕ → Bool → ℕ → Option Finding
error_told rows left p = if left && eqb (p + 1) (count_of rows) then None else error_of (row_at rows p)

-- W06; or E02 with the left-over quote. a and b are where the text and the left-over quote start
unfoldable pub swallow_told : Bool → ℕ → ℕ → Option Finding
swallow_told left a b =
    if left
    then Some (both error kind.IncompleteString no_detail a (bytes_on 1 a) b (bytes_on 1 b))
    else Some (single warning swallowing no_detail a (bytes_on 1 a))

-- only the first swallower tells
unfoldable pub text_told : List ℕ → ℕ → Bool → ℕ → Option Finding
text_told rows first left p = if eqb p first then swallow_told left (row_at rows p).start (last_row rows).start else None

-- W07, with the byte that follows
unfoldable pub number_told : List ℕ → List ℕ → ℕ → Option Finding
number_told source rows p =
    let r : Row = row_at rows p in
    if ends_otherwise source rows p then Some (single warning modes_differ (byte_at source r.end) r.start r.end) else None

unfoldable pub name_or_nothing : List ℕ → List ℕ → ℕ → Option Finding
name_or_nothing source rows p = if is_name source rows p then name_told source rows p else None

unfoldable pub row_told : List ℕ → List ℕ → ℕ → Bool → ℕ → Option Finding
row_told source rows first left p =
    let r : Row = row_at rows p in
    if ltb 0 r.error then error_told rows left p
    else if eqb r.kind kind.Identifier then name_or_nothing source rows p
    else if eqb r.kind kind.StringLiteral then text_told rows first left p
    else if eqb r.kind kind.Number then number_told source rows p
    else None

-- the finding about lists, if it is told at row p
abbrev pub list_told : Option ListTold → ℕ → Option Finding
list_told None p = None
list_told (Some t) p = if eqb t.row p then Some t.finding else None

-- the finding about lists goes before the row's own: it starts where the row does
abbrev pub told_at : List ℕ → List ℕ → Option ListTold → ℕ → Bool → ℕ → List Finding
told_at source rows list first left p = listed (list_told list p) ++ listed (row_told source rows first left p)

-- ---- all rows

-- what n rows from p on tell
unfoldable pub told_from : (ℕ → List Finding) → ℕ → ℕ → List Finding
told_from f zero p = []
told_from f (suc n) p = f p ++ told_from f n (p + 1)

-- what the rows of a source tell
unfoldable pub told_of : List ℕ → List ℕ → List Finding
told_of source rows =
    told_from (told_at source rows (list_of source rows) (swallower source rows) (left_over source rows)) (count_of rows) 0

-- how many of some findings are errors
unfoldable pub errors_in : List Finding → ℕ
errors_in [] = 0
errors_in (f ∷ fs) = if eqb f.severity error then suc (errors_in fs) else errors_in fs
