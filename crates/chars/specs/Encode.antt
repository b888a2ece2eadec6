-- Characters as bytes: RFC 3629, section 3, the table of octet sequences.
use Rattle.std.specs.Prelude.{ℕ, ◌+◌, ◌/◌, ◌%◌, Bool, ◌||◌, List, [], ◌∷◌, ◌++◌, ltb, length, if◌then◌else◌}
use Prim.Native.String.{String}
use Rattle.laws.specs.Quoted.{codes, within}
use Rattle.laws.specs.Lent.{written}

-- U+0000..D7FF and U+E000..10FFFF: every number that is a character's (the surrogates between are not, nor is what lies past)
unfoldable pub is_scalar : ℕ → Bool
is_scalar c = within 0x0000 0xD7FF c || within 0xE000 0x10FFFF c

-- 0000 0000-0000 007F | 0xxxxxxx
-- 0000 0080-0000 07FF | 110xxxxx 10xxxxxx
-- 0000 0800-0000 FFFF | 1110xxxx 10xxxxxx 10xxxxxx
-- 0001 0000-0010 FFFF | 11110xxx 10xxxxxx 10xxxxxx 10xxxxxx
abbrev pub one : ℕ → List ℕ
one c = c ∷ []

abbrev pub two : ℕ → List ℕ
two c = (0xC0 + c / 64) ∷ (0x80 + c % 64) ∷ []

abbrev pub three : ℕ → List ℕ
three c = (0xE0 + c / 4096) ∷ (0x80 + c / 64 % 64) ∷ (0x80 + c % 64) ∷ []

abbrev pub four : ℕ → List ℕ
four c = (0xF0 + c / 262144) ∷ (0x80 + c / 4096 % 64) ∷ (0x80 + c / 64 % 64) ∷ (0x80 + c % 64) ∷ []

-- The table for any number, so that every number has bytes and a width. What it says of numbers that are no character's is of no
-- account: `encode` leaves them out.
unfoldable pub utf8 : ℕ → List ℕ
utf8 c = if ltb c 0x80 then one c else if ltb c 0x800 then two c else if ltb c 0x10000 then three c else four c

-- how many bytes they are
unfoldable pub width : ℕ → ℕ
width c = if ltb c 0x80 then 1 else if ltb c 0x800 then 2 else if ltb c 0x10000 then 3 else 4

-- the bytes of a character; none for a number that is no character's
unfoldable pub encode : ℕ → List ℕ
encode c = if is_scalar c then utf8 c else []

-- the bytes of characters one after the other
unfoldable pub bytes_of : List ℕ → List ℕ
bytes_of [] = []
bytes_of (c ∷ cs) = utf8 c ++ bytes_of cs

-- the bytes of a quoted text
abbrev pub spelled : String → List ℕ
spelled t = bytes_of (codes t)

-- lent memory with the bytes w at its front, the rest of it as it was; all of it as it was where they don't fit
unfoldable pub lay : List ℕ → List ℕ → List ℕ
lay w memory = if ltb (length memory) (length w) then memory else written w memory

-- how many bytes were laid
unfoldable pub laid : List ℕ → List ℕ → ℕ
laid w memory = if ltb (length memory) (length w) then 0 else length w
