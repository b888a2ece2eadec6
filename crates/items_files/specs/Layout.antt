-- The ten numbers of an item (02, (x)): kind, detail, start less the previous item's start, extent length, place start, place length,
-- text source, text start, text length, depth. So each word of a record is stored less a base: the third less the previous item's
-- start (0 for the first item), the ends, which are the fourth, sixth and ninth, less the word before, the others whole.
use Rattle.std.specs.Prelude.{ℕ, ◌+◌, ◌-◌, Bool, true, List, [], ◌∷◌, eqb, ltb, if◌then◌else◌}
use Rattle.items.specs.Items.{own_words}
use Rattle.items.specs.declared.Nine.{Nine}
use Rattle.items.specs.declared.Record.{Record}
use Rattle.items_files.specs.declared.Before.{Before}

abbrev pub before : ℕ → ℕ → ℕ → Before
before which last start = record { which = which; last = last; start = start }

unfoldable pub base : Before → ℕ
base b =
    if eqb b.which 2
    then b.start
    else
    (if eqb b.which 3
    then b.last
    else
    (if eqb b.which 5
    then b.last
    else
    (if eqb b.which 8
    then b.last
    else 0)))

-- what lies before the word that follows the word w; after a record's last word the next record begins
unfoldable pub after : Before → ℕ → Before
after b w =
    if eqb b.which 2
    then before 3 w w
    else
    (if ltb b.which own_words
    then before (b.which + 1) w b.start
    else before 0 w b.start)

-- before the first word of a list
abbrev pub first : Before
first = before 0 0 0

-- the numbers of a list of words
unfoldable pub numbers : Before → List ℕ → List ℕ
numbers b [] = []
numbers b (w ∷ ws) = (w - base b) ∷ numbers (after b w) ws

-- ---- the same of a whole record, after an item that starts at p

-- "kind, detail, start less the previous item's start, extent length, place start, place length, text source, text start, text length, depth"
abbrev pub numbers_of : ℕ → Record → List ℕ
numbers_of p r =
    r.nine.kind
    ∷ r.nine.detail
    ∷ (r.nine.start - p)
    ∷ (r.nine.end - r.nine.start)
    ∷ r.nine.from
    ∷ (r.nine.to - r.nine.from)
    ∷ r.nine.source
    ∷ r.nine.first
    ∷ (r.nine.past - r.nine.first)
    ∷ r.depth
    ∷ []

-- whether one of its words is below its base
unfoldable pub goes_back : ℕ → Nine → Bool
goes_back p r =
    if ltb r.start p
    then true
    else
    (if ltb r.end r.start
    then true
    else
    (if ltb r.to r.from
    then true
    else ltb r.past r.first))
