-- One item a turn: what stands at a spot of a source, and where reading goes on. Spot and turn are defined for every source and every
-- spot, one that no call gave too: the characters from a place on are those up to the end or the first bad sequence.
use Rattle.std.specs.Prelude.{ℕ, zero, suc, ◌+◌, ◌-◌, ◌*◌, Bool, true, false, ◌&&◌, List, [], ◌∷◌, length, drop, eqb, if◌then◌else◌, None, Option, Some}
use Rattle.chars.specs.Utf8.{chars}
use Rattle.chars.specs.Encode.{width}
use Rattle.chars.specs.Blank.{is_blank}
use Rattle.items.specs.Kinds as kind
use Rattle.items.specs.declared.Outcome.{Outcome}
use Rattle.items.specs.declared.Nine.{Nine}
use Rattle.items.specs.Readers.{SoFar, Read, read_item}
use Rattle.items.specs.Items.{Place, range_after, Item, extent_items}
use Rattle.meaning.specs.Places.{place_in, range_of}
use Rattle.meaning.specs.Records.{packed}
use Rattle.lexer.specs.declared.Spot.{Spot}
use Rattle.lexer.specs.declared.FirstChar.{FirstChar}
use Rattle.lexer.specs.declared.Found.{Found}

-- what reading on from a spot gives: an item and the spot after it, or the end
pub data Turn : Type 0 where
  gives : Item → Spot → Turn
  ends : Turn

-- the spot at another place, with the last `error` range there; `second` says that of the extent's two items one was given
abbrev pub moved : Spot → ℕ → Place → Bool → Spot
moved p at last second = record { at = at; last = range_of last; second = second; report = p.report; skip = p.skip }

-- Which of an extent's items is given, and whether reading stays at its start or goes past it: an extent with two items gives the first
-- and stays, and then gives the second (E2)
abbrev pub pick : Bool → Spot → Spot → List Item → Turn
pick second stay past [] = ends
pick second stay past (i ∷ []) = gives i past
pick second stay past (i ∷ (j ∷ is)) = if second then gives j past else gives i stay

-- what the extent i gives, which starts at the place s
abbrev pub turn_of : Spot → ℕ → Outcome → SoFar → Turn
turn_of p s what i =
    pick p.second (moved p s (place_in p.last) true)
    (moved p i.at (range_after p.report (place_in p.last) s what i) false)
    (extent_items p.report (place_in p.last) s what i)

-- what the extent gives that starts at the place `at` with the character c
abbrev pub turn_at : Spot → ℕ → ℕ → List ℕ → Turn
turn_at p at c cs = let r : Read = read_item p.report at c cs in turn_of p at r.what r.item

-- the characters from the place `at` on: blanks are passed over
unfoldable pub turn_from : Spot → ℕ → List ℕ → Turn
turn_from p at [] = ends
turn_from p at (c ∷ cs) = elim (is_blank c) [ true ↦ turn_from p (at + width c) cs | false ↦ turn_at p at c cs ]

unfoldable pub turn : List ℕ → Spot → Turn
turn source p = turn_from p p.at (chars (drop p.at source))

-- ---- skipped comments are passed over too

-- a bound for the turns from a spot on: each goes forward, or gives the second item of an extent
abbrev pub size_of : List ℕ → Spot → ℕ
size_of source p = 2 * (length source - p.at) + (if p.second then 0 else 1)

abbrev pub keep : Bool → Turn → (Spot → Turn) → Turn
keep skip (gives i p) more = if skip && eqb i.kind kind.Comment then more p else gives i p
keep skip ends more = ends

unfoldable pub next_from : ℕ → List ℕ → Spot → Turn
next_from zero source p = ends
next_from (suc n) source p = keep p.skip (turn source p) (λ q. next_from n source q)

unfoldable pub next_at : List ℕ → Spot → Turn
next_at source p = next_from (suc (size_of source p)) source p

-- ---- all items that reading on gives, one after the other

abbrev pub and_then : Turn → (Spot → List Item) → List Item
and_then (gives i p) more = i ∷ more p
and_then ends more = []

unfoldable pub all_from : ℕ → List ℕ → Spot → List Item
all_from zero source p = []
all_from (suc n) source p = and_then (next_at source p) (λ q. all_from n source q)

unfoldable pub all_items : List ℕ → Spot → List Item
all_items source p = all_from (suc (size_of source p)) source p

-- ---- as the code hands it on

-- the first character that is no blank, where it stands, and the place past it
abbrev pub first_at : ℕ → ℕ → ℕ → Option FirstChar
first_at c at next = Some (record { code = c; at = at; past = next })

unfoldable pub start_from : ℕ → List ℕ → Option FirstChar
start_from at [] = None
start_from at (c ∷ cs) = let more = start_from (at + width c) cs in if is_blank c then more else first_at c at (at + width c)

-- an item by itself; `free` is the first free byte of the text memory
abbrev pub one_found : Nine → Spot → Option Found
one_found r p = Some (record { nine = r; after = p })

abbrev pub found_of : ℕ → Turn → Option Found
found_of free (gives i p) = one_found (packed free i) p
found_of free ends = None
