-- Lines and columns of a place, both from 1, and the part of its line that a picture shows; on any bytes.
use Rattle.std.specs.Prelude.{ℕ, zero, suc, ◌+◌, ◌-◌, ◌≤◌, Bool, List, eqb, ltb, leb, length, get_or, drop, if◌then◌else◌}
use Rattle.laws.specs.Quoted.{within}
use Rattle.laws.specs.Texts.{span, before}
use Rattle.findings_render_parts.specs.declared.Window.{Window}

-- the last place that 32 bits hold (01: a text has at most 4,294,967,295 bytes)
abbrev pub last_place : ℕ
last_place = 4294967295

abbrev pub IsPlace : List ℕ → ℕ → Type 0
IsPlace s p = (p ≤ length s) × (p ≤ last_place)

abbrev pub newline : ℕ
newline = 0x0A

abbrev pub carriage_return : ℕ
carriage_return = 0x0D

-- a byte that continues a character: UTF8-tail
abbrev pub later : ℕ → Bool
later b = within 0x80 0xBF b

-- how many of the n bytes from a place on are one of low..high
unfoldable pub count_in : ℕ → ℕ → List ℕ → ℕ → ℕ → ℕ
count_in low high s from zero = 0
count_in low high s from (suc n) = count_in low high s from n + (if within low high (get_or s (from + n) 0) then 1 else 0)

-- where the line of a place starts: behind the last newline before it
unfoldable pub start_of : List ℕ → ℕ → ℕ
start_of s zero = 0
start_of s (suc i) = if eqb (get_or s i 0) newline then suc i else start_of s i

unfoldable pub line_number : List ℕ → ℕ → ℕ
line_number s at = 1 + count_in newline newline s 0 at

-- the column counts characters: the bytes from the line's start on that do not continue one
unfoldable pub column_number : List ℕ → ℕ → ℕ
column_number s at = 1 + ((at - start_of s at) - count_in 0x80 0xBF s (start_of s at) (at - start_of s at))

-- where the line of a place ends: at the next newline, or before the carriage return that stands before it
unfoldable pub cut_return : List ℕ → ℕ → ℕ → ℕ
cut_return s start end = if ltb start end then (if eqb (get_or s (end - 1) 0) carriage_return then end - 1 else end) else end

unfoldable pub end_of : List ℕ → ℕ → ℕ
end_of s at = cut_return s (start_of s at) (at + before newline (drop at s))

-- ---- what is shown of a line: all of at most 160 bytes; of a longer one 160 from its start, or from 80 before the place on; never half a character

unfoldable pub next_character : List ℕ → ℕ → ℕ
next_character s at = at + span later (drop at s)

unfoldable pub shown_from : List ℕ → ℕ → ℕ → ℕ → ℕ
shown_from s start end at = if leb (end - start) 160 then start else if leb (at - start) 80 then start else next_character s (at - 80)

unfoldable pub shown_to : List ℕ → ℕ → ℕ → ℕ
shown_to s from end = if leb (end - from) 160 then end else next_character s (from + 160)

unfoldable pub window_of : List ℕ → ℕ → Window
window_of s at =
    let start = start_of s at in
    let end = end_of s at in
    let from = shown_from s start end at in
    record { start = start; from = from; to = shown_to s from end; end = end }
