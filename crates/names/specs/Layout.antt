-- How the name table lies in lent memory: `table_words` words and `table_bytes` bytes, half of each for each party; memory may be longer.
-- A half's words are the count of its names; the bounds of its names (the bytes of entry k lie from bound k to bound k + 1 of the half's
-- bytes), one more than it can have names; the slots of an index (0 empty, else an entry and a tag of its name); and one slot behind them
-- that is never asked.
use Rattle.std.specs.Prelude.{ℕ, ◌+◌, ◌-◌, ◌*◌, ◌≤◌, ◌<◌, ◌≡◌, refl, Bool, false, List, ltb, leb, length, get_or, take, drop, if◌then◌else◌}
use Rattle.laws.specs.Texts.{same}
use Rattle.names.specs.declared.Place.{Place}

-- "at most 512 names and 16,384 name bytes first entered by each of two parties"
abbrev pub half_names : ℕ
half_names = 512

abbrev pub half_bytes : ℕ
half_bytes = 16384

-- where the bounds and the index stand in a half's words
abbrev pub first_bound : ℕ
first_bound = 1

abbrev pub first_slot : ℕ
first_slot = 514

abbrev pub index_slots : ℕ
index_slots = 1024

abbrev pub half_words : ℕ
half_words = 1539

-- both halves
abbrev pub table_names : ℕ
table_names = 1024

abbrev pub table_bytes : ℕ
table_bytes = 32768

abbrev pub table_words : ℕ
table_words = 3078

-- the sizes follow from the names, the bytes and the slots of a half
pub record Sizes : Type 0 where
  pub bounds : first_bound + (half_names + 1) ≡ first_slot
  pub words : first_slot + (index_slots + 1) ≡ half_words
  pub both : 2 * half_words ≡ table_words
  pub bytes : 2 * half_bytes ≡ table_bytes
  pub names : 2 * half_names ≡ table_names

sizes : Sizes
sizes = record { bounds = refl; words = refl; both = refl; bytes = refl; names = refl }

-- the names in a party's half
abbrev pub count : List ℕ → ℕ → ℕ
count w p = get_or w (p * half_words) 0

-- where the bytes of entry k begin, and those of the entry before it end
abbrev pub bound : List ℕ → ℕ → ℕ → ℕ
bound w p k = get_or w (p * half_words + first_bound + k) 0

-- the name bytes used in a party's half
abbrev pub used : List ℕ → ℕ → ℕ
used w p = bound w p (count w p)

-- a slot of a half's index
abbrev pub slot : List ℕ → ℕ → ℕ → ℕ
slot w p s = get_or w (p * half_words + first_slot + s) 0

abbrev pub placed : ℕ → ℕ → Place
placed s e = record { start = s; end = e }

abbrev pub nowhere : Place
nowhere = placed 0 0

-- the bytes at a place
abbrev pub cut : Place → List ℕ → List ℕ
cut q b = take (q.end - q.start) (drop q.start b)

-- where entry k of a half lies in the bytes: nowhere if its bounds go back or pass the half
unfoldable pub place_at : List ℕ → ℕ → ℕ → Place
place_at w p k =
    if leb (bound w p k) (bound w p (k + 1))
    then (if leb (bound w p (k + 1)) half_bytes then placed (p * half_bytes + bound w p k) (p * half_bytes + bound w p (k + 1)) else nowhere)
    else nowhere

-- its name
unfoldable pub name_at : List ℕ → List ℕ → ℕ → ℕ → List ℕ
name_at w b p k = cut (place_at w p k) b

-- whether entry k of a half is there and bears the name
unfoldable pub bears : List ℕ → List ℕ → ℕ → List ℕ → ℕ → Bool
bears w b p name k = if ltb k (count w p) then same (name_at w b p k) name else false

-- the bounds of 27, listed in docs/NAMES.md: words and bytes enough for the table; in each half no more names and name bytes than it holds
unfoldable pub half_bounds : List ℕ → ℕ → Bool
half_bounds w p = if leb (count w p) half_names then leb (used w p) half_bytes else false

unfoldable pub is_in_bounds : List ℕ → List ℕ → Bool
is_in_bounds w b =
    if leb table_words (length w)
    then (if leb table_bytes (length b) then (if half_bounds w 0 then half_bounds w 1 else false) else false)
    else false

-- a party's half that can be read: words and bytes enough for the table, one of the two parties, no more names than a half holds
pub record Readable (w b : List ℕ) (p : ℕ) : Type 0 where
  pub words : table_words ≤ length w
  pub bytes : table_bytes ≤ length b
  pub party : p < 2
  pub few : count w p ≤ half_names
