-- A text as a terminal shows it, character by character, and how wide it is there. Any bytes have a showing: a byte of no character stands as `<E5>`.
use Rattle.std.specs.Prelude.{ℕ, zero, suc, ◌+◌, ◌-◌, Bool, true, false, ◌&&◌, List, [], ◌∷◌, ◌++◌, eqb, get_or, take, replicate, if◌then◌else◌}
use Rattle.laws.specs.Quoted.{codes, code, within}
use Rattle.chars.specs.Utf8.{Front, char, bad, cut, none, front}
use Rattle.findings_render_parts.specs.declared.Seen.{Seen}
use Rattle.findings_render_parts.specs.declared.Showing.{Showing}
use Rattle.findings_render_parts.specs.declared.Showing.TheVariants.{NoColumn, OneColumn, TwoColumns, Tab, ByNumber, AsByte}
use Rattle.findings_render_parts.specs.Printed.{digits, hex_count}

-- The characters that are not just one column wide, in order: from, to, and how they are shown. By number are shown the control characters, the
-- invisible ones and those that change the direction; wide are the ideographs, kana, hangul, full-width forms and pictures; combining marks take none.
unfoldable pub ranges : List (ℕ × ℕ × Showing)
ranges =
    (0x0000, 0x0008, ByNumber)
    ∷ (0x0009, 0x0009, Tab)
    ∷ (0x000A, 0x001F, ByNumber)
    ∷ (0x007F, 0x009F, ByNumber)
    ∷ (0x00AD, 0x00AD, ByNumber)
    ∷ (0x0300, 0x036F, NoColumn)
    ∷ (0x0483, 0x0489, NoColumn)
    ∷ (0x0591, 0x05BD, NoColumn)
    ∷ (0x0610, 0x061A, NoColumn)
    ∷ (0x061C, 0x061C, ByNumber)
    ∷ (0x064B, 0x065F, NoColumn)
    ∷ (0x1100, 0x115F, TwoColumns)
    ∷ (0x180E, 0x180E, ByNumber)
    ∷ (0x1AB0, 0x1AFF, NoColumn)
    ∷ (0x1DC0, 0x1DFF, NoColumn)
    ∷ (0x200B, 0x200F, ByNumber)
    ∷ (0x2028, 0x202E, ByNumber)
    ∷ (0x2060, 0x206F, ByNumber)
    ∷ (0x20D0, 0x20FF, NoColumn)
    ∷ (0x2E80, 0x303E, TwoColumns)
    ∷ (0x3041, 0xA4CF, TwoColumns)
    ∷ (0xAC00, 0xD7A3, TwoColumns)
    ∷ (0xF900, 0xFAFF, TwoColumns)
    ∷ (0xFE00, 0xFE0F, NoColumn)
    ∷ (0xFE20, 0xFE2F, NoColumn)
    ∷ (0xFE30, 0xFE6F, TwoColumns)
    ∷ (0xFEFF, 0xFEFF, ByNumber)
    ∷ (0xFF01, 0xFF60, TwoColumns)
    ∷ (0xFFE0, 0xFFE6, TwoColumns)
    ∷ (0x1F300, 0x1F64F, TwoColumns)
    ∷ (0x1F680, 0x1F6FF, TwoColumns)
    ∷ (0x1F900, 0x1FAFF, TwoColumns)
    ∷ (0x20000, 0x3FFFD, TwoColumns)
    ∷ []

unfoldable pub kind_in : List (ℕ × ℕ × Showing) → ℕ → Showing
kind_in [] c = OneColumn
kind_in (r ∷ rs) c = if within r.0 r.1 c then r.2 else kind_in rs c

abbrev pub kind_of : ℕ → Showing
kind_of c = kind_in ranges c

-- what stands at the front of a text: how many bytes it has, how it is shown, and its number or, of no character, its first byte
abbrev pub seen : List ℕ → Front → Seen
seen t (char c n) = record { size = n; kind = kind_of c; code = c }
seen t (bad n) = record { size = 1; kind = AsByte; code = get_or t 0 0 }
seen t cut = record { size = 1; kind = AsByte; code = get_or t 0 0 }
seen t none = record { size = 1; kind = AsByte; code = get_or t 0 0 }

abbrev pub seen_in : List ℕ → Seen
seen_in t = seen t (front t)

-- what f makes of each character of a text, and of each byte of none, one after the other; `skip` bytes of the last are still to pass
unfoldable pub walked : (Seen → List ℕ → List ℕ) → ℕ → List ℕ → List ℕ
walked f skip [] = []
walked f (suc k) (b ∷ s) = walked f k s
walked f zero (b ∷ s) = f (seen_in (b ∷ s)) (b ∷ s) ++ walked f ((seen_in (b ∷ s)).size - 1) s

-- a character by its number, `<U+202E>`, and a byte, `<E5>`
unfoldable pub by_its_number : ℕ → List ℕ
by_its_number c = codes "<U+" ++ (digits true (hex_count c) c ++ codes ">")

unfoldable pub as_its_byte : ℕ → List ℕ
as_its_byte b = codes "<" ++ (digits true 2 b ++ codes ">")

abbrev pub shown_as : Showing → Seen → List ℕ → List ℕ
shown_as ByNumber u t = by_its_number u.code
shown_as AsByte u t = as_its_byte u.code
shown_as NoColumn u t = take u.size t
shown_as OneColumn u t = take u.size t
shown_as TwoColumns u t = take u.size t
shown_as Tab u t = take u.size t

unfoldable pub shown_one : Seen → List ℕ → List ℕ
shown_one u t = shown_as u.kind u t

-- a text as it is shown
abbrev pub shown : List ℕ → List ℕ
shown t = walked shown_one 0 t

-- how many columns it takes
abbrev pub columns_as : Showing → ℕ → ℕ
columns_as NoColumn c = 0
columns_as OneColumn c = 1
columns_as TwoColumns c = 2
columns_as Tab c = 1
columns_as ByNumber c = 4 + hex_count c
columns_as AsByte c = 4

unfoldable pub columns : Seen → ℕ
columns u = columns_as u.kind u.code

-- whether it is a tab
abbrev pub is_tab : Showing → Bool
is_tab Tab = true
is_tab NoColumn = false
is_tab OneColumn = false
is_tab TwoColumns = false
is_tab ByNumber = false
is_tab AsByte = false

-- whether it is no character
abbrev pub is_byte : Showing → Bool
is_byte AsByte = true
is_byte NoColumn = false
is_byte OneColumn = false
is_byte TwoColumns = false
is_byte Tab = false
is_byte ByNumber = false

-- what stands under a character: as many marks as it has columns; but under a tab before the place, where the mark is a blank, a tab
unfoldable pub is_copied : ℕ → Showing → Bool
is_copied mark kind = eqb mark (code " ") && is_tab kind

unfoldable pub under_one : ℕ → Seen → List ℕ → List ℕ
under_one mark u t = if is_copied mark u.kind then 0x09 ∷ [] else replicate (columns u) mark

abbrev pub under : ℕ → List ℕ → List ℕ
under mark t = walked (under_one mark) 0 t

-- whether there is nothing
unfoldable pub is_nil : List ℕ → Bool
is_nil [] = true
is_nil (b ∷ bs) = false

-- the carets under a place, one at least
unfoldable pub carets : List ℕ → List ℕ
carets t = if is_nil (under (code "^") t) then codes "^" else under (code "^") t
