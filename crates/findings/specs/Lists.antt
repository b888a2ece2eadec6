-- The one finding about lists: after a wrong bracket all others are its consequences. Which refusal it is, and at which row, is the nested
-- lists' (crate nested); here it gets the place that a foreman looks for.
use Rattle.std.specs.Prelude.{ℕ, ◌+◌, ◌-◌, Bool, ◌&&◌, ◌||◌, List, [], eqb, leb, ltb, if◌then◌else◌, None, Option, Some}
use Rattle.laws.specs.Quoted.{within}
use Rattle.refusal.specs.Refusals as refusal
use Rattle.items.specs.Kinds as kind
use Rattle.nested.specs.Items.{count_of}
use Rattle.nested.specs.Grammar.{deepest}
use Rattle.nested.specs.Lent.{nested_of, Nested, Built, Refused}
use Rattle.findings.specs.Finding.{error, both, single, no_detail, stray, closes_another, at_dot, behind_dot}
use Rattle.findings.specs.Rows.{row_at, last_row, depth_at, last_before, first_row}
use Rattle.findings.specs.Lines.{line_start, offset, first_on_line}
use Rattle.findings.specs.declared.Row.{Row}
use Rattle.findings.specs.declared.ListTold.{ListTold}

-- told at row i, whose extent is the place
abbrev pub at_row : List ℕ → ℕ → ℕ → ℕ → Option ListTold
at_row rows n d i = Some (record { row = i; finding = single error n d (row_at rows i).start (row_at rows i).end })

-- told at row i, with the extent of row j as the second place
abbrev pub at_rows : List ℕ → ℕ → ℕ → ℕ → ℕ → Option ListTold
at_rows rows n d i j =
    Some (record { row = i; finding = both error n d (row_at rows i).start (row_at rows i).end (row_at rows j).start (row_at rows j).end })

-- row i has a kind, where d brackets are open
abbrev pub is_kind : List ℕ → ℕ → ℕ → ℕ → Bool
is_kind rows k d i = eqb (row_at rows i).kind k && eqb (row_at rows i).depth d

-- row i opens a bracket inside d others
unfoldable pub is_open : List ℕ → ℕ → ℕ → Bool
is_open rows d i = is_kind rows kind.OpenParen d i

-- the bracket that is innermost where d are open, before row p
abbrev pub opener : List ℕ → ℕ → ℕ → ℕ
opener rows d p = last_before (is_open rows (d - 1)) p

-- ---- E41, a wrong close: `(a]`, with the bracket that it cannot close; a stray one, `)`, has none

unfoldable pub wrong_close : List ℕ → ℕ → Option ListTold
wrong_close rows p =
    let d : ℕ = depth_at rows p in
    if eqb d 0 then at_row rows refusal.wrong_close stray p else at_rows rows refusal.wrong_close closes_another p (opener rows d p)

-- ---- E42, at the dot: `(. a)`; of `(a . b c)`, where c is refused, the dot before it in its list

unfoldable pub is_dot : List ℕ → ℕ → ℕ → Bool
is_dot rows d i = is_kind rows kind.Dot d i

unfoldable pub misplaced_dot : List ℕ → ℕ → Option ListTold
misplaced_dot rows p =
    if eqb (row_at rows p).kind kind.Dot
    then at_row rows refusal.misplaced_dot at_dot p
    else at_row rows refusal.misplaced_dot behind_dot (last_before (is_dot rows (depth_at rows p)) p)

-- ---- E43, at the mark: `(a ')`

-- `#;`, or one of the eight quoting marks
unfoldable pub is_mark : ℕ → Bool
is_mark k = eqb k kind.DatumComment || within kind.QuoteTick kind.UnquoteSpliceSyntax k

-- the mark of row i waits at row p: nothing follows it, or only what `#;` drops, as in `('#;a)`
unfoldable pub waits : List ℕ → ℕ → ℕ → ℕ → Bool
waits rows d p i =
    is_mark (row_at rows i).kind && eqb (row_at rows i).depth d && (eqb (i + 1) p || eqb (row_at rows (i + 1)).kind kind.DatumComment)

unfoldable pub mark_waits : List ℕ → ℕ → Option ListTold
mark_waits rows p = at_row rows refusal.mark_waits no_detail (last_before (waits rows (depth_at rows p) p) p)

-- ---- E40, a bracket that is never closed: that of the first list in which another starts a line no further right

-- a list at the place a stands first on its line, below the line of the place o and no further right
abbrev pub stands_out : List ℕ → ℕ → ℕ → Bool
stands_out source o a = ltb (line_start source o) (line_start source a) && leb (offset source a) (offset source o) && first_on_line source a

-- where the last bracket before row k starts that opens inside d others
abbrev pub open_start : List ℕ → ℕ → ℕ → ℕ
open_start rows d k = (row_at rows (last_before (is_open rows d) k)).start

-- Row k opens a bracket and stands out of the one that it lies in: a close is missing before it. (Where E40 is told, no more than `deepest`
-- are open.)
unfoldable pub is_misfit : List ℕ → List ℕ → ℕ → Bool
is_misfit source rows k =
    let r : Row = row_at rows k in
    eqb r.kind kind.OpenParen && within 1 deepest r.depth && stands_out source (open_start rows (r.depth - 1) k) r.start

-- no misfit: the innermost bracket that is open at the end
abbrev pub innermost : List ℕ → Option ListTold
innermost rows = at_row rows refusal.bracket_open (depth_at rows (count_of rows)) (opener rows (depth_at rows (count_of rows)) (count_of rows))

-- the bracket that the misfit k lies in, and the misfit
abbrev pub around : List ℕ → ℕ → Option ListTold
around rows k = at_rows rows refusal.bracket_open (depth_at rows (count_of rows)) (opener rows (row_at rows k).depth k) k

-- E40 is not told where a plan ends in E02, E03 or E04: what is not closed has swallowed the rest
unfoldable pub bracket_open : List ℕ → List ℕ → Option ListTold
bracket_open source rows =
    let k : ℕ = first_row (is_misfit source rows) rows in
    if within kind.IncompleteString kind.IncompleteComment (last_row rows).error then None
    else if ltb k (count_of rows) then around rows k
    else innermost rows

-- ---- by the refusal; E44, a level inside 64 others, is told where it stands

unfoldable pub refused_list : List ℕ → List ℕ → ℕ → ℕ → Option ListTold
refused_list source rows n p =
    if eqb n refusal.bracket_open then bracket_open source rows
    else if eqb n refusal.wrong_close then wrong_close rows p
    else if eqb n refusal.misplaced_dot then misplaced_dot rows p
    else if eqb n refusal.mark_waits then mark_waits rows p
    else if eqb n refusal.too_deep then at_row rows refusal.too_deep no_detail p
    else None

abbrev pub nested_told : List ℕ → List ℕ → Nested → Option ListTold
nested_told source rows (Built n) = None
nested_told source rows (Refused n p) = refused_list source rows n p

-- the finding about the lists of a plan, and its row
unfoldable pub list_of : List ℕ → List ℕ → Option ListTold
list_of source rows = nested_told source rows (nested_of rows []).answer
