-- What the warnings are told of: each is a condition on a row and the text.
use Rattle.findings.specs.declared.Finding.{Finding}
use Rattle.std.specs.Prelude.{ℕ, ◌+◌, ◌-◌, Bool, true, false, not, ◌&&◌, ◌||◌, List, [], ◌∷◌, eqb, if◌then◌else◌, None, Option, Some}
use Rattle.laws.specs.Quoted.{code, codes, one_of, within}
use Rattle.chars.specs.Utf8.{Sequence, read, broken, short, sequences}
use Rattle.items.specs.Kinds as kind
use Rattle.findings.specs.Finding.{warning, single, no_detail, comma_number, number_name, typographic_quote, typographic_dash, invisible}
use Rattle.findings.specs.Rows.{byte_at, part, row_at, first_row}
use Rattle.findings.specs.Lines.{is_newline, is_space}
use Rattle.findings.specs.declared.Row.{Row}

-- ---- names

-- A name that warnings are told of. A name in vertical lines is never warned of, so that every warning can be answered.
-- Of `+foo`, two names of one extent, the second tells.
unfoldable pub is_name : List ℕ → List ℕ → ℕ → Bool
is_name source rows p =
    let r : Row = row_at rows p in
    let next : Row = row_at rows (p + 1) in
    eqb r.kind kind.Identifier && eqb r.error 0 && not (eqb (byte_at source r.start) (code "|"))
    && not (eqb next.kind kind.Identifier && eqb next.start r.start)

-- ‘ ’ ‚ ‛ “ ” „ ‟ and « »
unfoldable pub is_quote : ℕ → Bool
is_quote c = within 0x2018 0x201F c || eqb c 0xAB || eqb c 0xBB

-- the hyphens and dashes past ASCII, and the minus sign
unfoldable pub is_dash : ℕ → Bool
is_dash c = within 0x2010 0x2015 c || eqb c 0x2212

-- A control character; the soft hyphen; the Arabic letter mark; the Mongolian vowel separator; zero-width characters and marks of
-- direction; embeddings and overrides; invisible operators and isolates; the byte order mark
unfoldable pub is_invisible : ℕ → Bool
is_invisible c =
    within 0x00 0x1F c || within 0x7F 0x9F c || eqb c 0xAD || eqb c 0x061C || eqb c 0x180E || within 0x200B 0x200F c
    || within 0x202A 0x202E c || within 0x2060 0x206F c || eqb c 0xFEFF

-- the warning about a character in a name, 0 of most
unfoldable pub odd_code : ℕ → ℕ
odd_code c =
    if is_quote c then typographic_quote
    else if is_dash c then typographic_dash
    else if is_invisible c then invisible
    else 0

-- a code, where it is one
unfoldable pub some_code : ℕ → Option ℕ
some_code n = if eqb n 0 then None else Some n

-- the first odd character of some characters
unfoldable pub first_odd : List Sequence → Option Finding
first_odd [] = None
first_odd (read c f t ∷ l) = let more = first_odd l in if eqb (odd_code c) 0 then more else Some (single warning (odd_code c) c f t)
first_odd (broken f t ∷ l) = None
first_odd (short f ∷ l) = None

abbrev pub odd_in : List ℕ → ℕ → ℕ → Option Finding
odd_in source a b = first_odd (sequences 0 a (part source a b))

abbrev pub is_a_digit : ℕ → Bool
is_a_digit b = within (code "0") (code "9") b

-- a digit, or `+`, `-` or `.` and then a digit
unfoldable pub like_number : List ℕ → ℕ → Bool
like_number source a = is_a_digit (byte_at source a) || (one_of (codes "+-.") (byte_at source a) && is_a_digit (byte_at source (a + 1)))

-- `,` follows the name of row p at once, and something that starts with a digit follows the comma at once: 412,5
unfoldable pub comma_follows : List ℕ → List ℕ → ℕ → Bool
comma_follows source rows p =
    let comma : Row = row_at rows (p + 1) in
    let rest : Row = row_at rows (p + 2) in
    eqb comma.kind kind.Unquote && eqb comma.start (row_at rows p).end && eqb rest.start comma.end
    && is_a_digit (byte_at source rest.start)

-- W01 with the length of what stands before the comma, or W02
unfoldable pub number_slip : List ℕ → List ℕ → ℕ → Option Finding
number_slip source rows p =
    let r : Row = row_at rows p in
    if like_number source r.start
    then
    (if comma_follows source rows p
    then Some (single warning comma_number (r.end - r.start) r.start (row_at rows (p + 2)).end)
    else Some (single warning number_name no_detail r.start r.end))
    else None

abbrev pub or_else : Option Finding → Option Finding → Option Finding
or_else None other = other
or_else (Some f) other = Some f

-- "the first of these that holds"
unfoldable pub name_told : List ℕ → List ℕ → ℕ → Option Finding
name_told source rows p = or_else (odd_in source (row_at rows p).start (row_at rows p).end) (number_slip source rows p)

-- ---- texts

-- A newline, then spaces or tabs, then `(`. `fresh` says that a newline and only spaces or tabs stand just before.
unfoldable pub swallows : Bool → List ℕ → Bool
swallows fresh [] = false
swallows fresh (b ∷ s) =
    if is_newline b then swallows true s
    else if fresh && eqb b (code "(") then true
    else swallows (fresh && is_space b) s

-- a text in straight quotes that goes on over a line's end before a `(`: "is its closing quote missing?"
unfoldable pub is_swallower : List ℕ → List ℕ → ℕ → Bool
is_swallower source rows p =
    let r : Row = row_at rows p in
    eqb r.kind kind.StringLiteral && eqb (byte_at source r.start) (code "\"") && swallows false (part source r.start r.end)

-- the first of them; the number of rows if there is none
abbrev pub swallower : List ℕ → List ℕ → ℕ
swallower source rows = first_row (is_swallower source rows) rows

-- ---- numbers

-- `;`, `"` or `|` stands behind the number of row p, which plain mode does not end there: 6892014.7;gps
unfoldable pub ends_otherwise : List ℕ → List ℕ → ℕ → Bool
ends_otherwise source rows p = one_of (codes ";\"|") (byte_at source (row_at rows p).end)
