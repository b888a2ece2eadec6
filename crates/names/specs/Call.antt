-- The calls on the table, each with its answer and the final contents of the lent memory.
use Rattle.std.specs.Prelude.{ℕ, zero, suc, ◌+◌, ◌-◌, ◌*◌, ◌/◌, ◌%◌, Bool, false, List, [], ◌∷◌, ◌++◌, eqb, ltb, leb, length, take, drop, set, replicate, if◌then◌else◌, None, Option, Some}
use Rattle.laws.specs.Lent.{written}
use Rattle.refusal.specs.Refusals.{out_of_bounds, no_party, no_room, no_name}
use Rattle.names.specs.Layout.{half_names, half_bytes, first_bound, first_slot, index_slots, half_words, table_names, table_bytes, table_words}
use Rattle.names.specs.Layout.{count, used, slot, nowhere, cut, place_at, bears, is_in_bounds}
use Rattle.names.specs.declared.Place.{Place}
use Rattle.names.specs.Answers.{Told, Number, Refused}
use Rattle.names.specs.declared.Proposal.{Proposal}
use Rattle.names.specs.declared.Proposal.TheVariants.{Entry, Free, Full}

-- A name's hash: a product hash in 32 bits, four bytes a turn and the last ones one by one. Its top ten bits are the slot at which the
-- search for the name begins, the other 22 its tag. Nothing that is promised rests on its being a good one.
abbrev pub factor : ℕ
factor = 1640531527

abbrev pub hashes : ℕ
hashes = 4294967296

abbrev pub hashes_aSlot : ℕ
hashes_aSlot = 4194304

abbrev pub turn : ℕ → ℕ → ℕ
turn h x = ((h + x) * factor) % hashes

-- four bytes as one number, the lowest first
abbrev pub four : ℕ → ℕ → ℕ → ℕ → ℕ
four a b c d = a + b * 256 + c * 65536 + d * 16777216

unfoldable pub rest : ℕ → List ℕ → ℕ
rest h [] = h
rest h (c ∷ s) = rest (turn h c) s

unfoldable pub mix : ℕ → List ℕ → ℕ
mix h (a ∷ b ∷ c ∷ d ∷ s) = mix (turn h (four a b c d)) s
mix h (a ∷ b ∷ c ∷ []) = rest h (a ∷ b ∷ c ∷ [])
mix h (a ∷ b ∷ []) = rest h (a ∷ b ∷ [])
mix h (a ∷ []) = rest h (a ∷ [])
mix h [] = h

abbrev pub hash_of : List ℕ → ℕ
hash_of name = mix 0 name

abbrev pub slot_of : List ℕ → ℕ
slot_of name = hash_of name / hashes_aSlot

abbrev pub tag_of : List ℕ → ℕ
tag_of name = hash_of name % hashes_aSlot

-- a slot's word that is not 0 is one more than an entry and a tag: the entry is looked at only if the tag is the name's
abbrev pub slot_word : ℕ → ℕ → ℕ
slot_word tag k = tag * half_names + k + 1

abbrev pub entry_in : ℕ → ℕ
entry_in v = (v - 1) % half_names

abbrev pub tag_in : ℕ → ℕ
tag_in v = (v - 1) / half_names

-- whether a slot's word proposes an entry that bears the name
unfoldable pub proposes : List ℕ → List ℕ → ℕ → List ℕ → ℕ → Bool
proposes w b p name v = if eqb (tag_in v) (tag_of name) then bears w b p name (entry_in v) else false

-- so many slots of an index are asked for a name
abbrev pub looks : ℕ
looks = 64

-- the index asked from slot s on: the first entry proposed that bears the name; or the first empty slot; or, after n slots, neither
unfoldable pub probe : ℕ → List ℕ → List ℕ → ℕ → List ℕ → ℕ → Proposal
probe zero w b p name s = Full
probe (suc n) w b p name s =
    let more = probe n w b p name ((s + 1) % index_slots) in
    if eqb (slot w p s) 0 then Free s else if proposes w b p name (slot w p s) then Entry (entry_in (slot w p s)) else more

abbrev pub probe_of : List ℕ → List ℕ → ℕ → List ℕ → Proposal
probe_of w b p name = probe looks w b p name (slot_of name)

-- the number of the first of n entries from k on that bears the name
unfoldable pub scan : ℕ → List ℕ → List ℕ → ℕ → List ℕ → ℕ → Option ℕ
scan zero w b p name k = None
scan (suc n) w b p name k = let more = scan n w b p name (k + 1) in if bears w b p name k then Some (p * half_names + k) else more

abbrev pub scanned : List ℕ → List ℕ → ℕ → List ℕ → Option ℕ
scanned w b p name = scan (count w p) w b p name 0

-- an entry's number is its place in its half, plus that of the half
abbrev pub numbered : ℕ → Proposal → Option ℕ → Option ℕ
numbered p (Entry k) read = Some (p * half_names + k)
numbered p (Free s) read = None
numbered p Full read = read

-- the number of a name that is in a half: by the index, and by reading the names where the index gives neither entry nor empty slot
unfoldable pub lookup_of : List ℕ → List ℕ → ℕ → List ℕ → Option ℕ
lookup_of w b p name = numbered p (probe_of w b p name) (scanned w b p name)

abbrev pub or_else : Option ℕ → Option ℕ → Option ℕ
or_else (Some n) f = Some n
or_else None f = f

-- the number of a name that is there, whoever entered it
unfoldable pub find_of : List ℕ → List ℕ → ℕ → List ℕ → Option ℕ
find_of w b p name = or_else (lookup_of w b p name) (lookup_of w b (1 - p) name)

-- what a call gives: its answer, and the final contents of the lent memory
pub record Outcome : Type 0 where
  pub answer : Told
  pub words : List ℕ
  pub bytes : List ℕ

abbrev pub outcome : Told → List ℕ → List ℕ → Outcome
outcome a w b = record { answer = a; words = w; bytes = b }

-- the slot at which the index is extended, or the one that is never asked
abbrev pub free_of : Proposal → ℕ
free_of (Entry k) = index_slots
free_of (Free s) = s
free_of Full = index_slots

-- the words with one name more, of n bytes, proposed at slot s under a tag
unfoldable pub new_words : List ℕ → ℕ → ℕ → ℕ → ℕ → List ℕ
new_words w p s t n =
    set
    (set (set w (p * half_words + first_slot + s) (slot_word t (count w p))) (p * half_words + first_bound + (count w p + 1)) (used w p + n))
    (p * half_words)
    (count w p + 1)

-- the bytes with the name at a place
unfoldable pub laid : ℕ → List ℕ → List ℕ → List ℕ
laid at name b = take at b ++ name ++ drop (at + length name) b

-- a new name gets the count of names in its half, plus that of the half's numbers; refused, the memory stays
unfoldable pub new_of : List ℕ → List ℕ → ℕ → List ℕ → Outcome
new_of w b p name =
    if ltb (count w p) half_names
    then (if leb (used w p + length name) half_bytes
    then outcome (Number (p * half_names + count w p))
    (new_words w p (free_of (probe_of w b p name)) (tag_of name) (length name))
    (laid (p * half_bytes + used w p) name b)
    else outcome (Refused no_room) w b)
    else outcome (Refused no_room) w b

abbrev pub given : Option ℕ → List ℕ → List ℕ → ℕ → List ℕ → Outcome
given (Some n) w b p name = outcome (Number n) w b
given None w b p name = new_of w b p name

-- a party asks for a name's number: 27, 35, 36 in that order
unfoldable pub enter_of : List ℕ → List ℕ → ℕ → List ℕ → Outcome
enter_of w b p name =
    if is_in_bounds w b
    then (if ltb p 2 then given (find_of w b p name) w b p name else outcome (Refused no_party) w b)
    else outcome (Refused out_of_bounds) w b

-- the opening call: its mark, and the final words; no byte is written
pub record Opening : Type 0 where
  pub mark : ℕ
  pub words : List ℕ

abbrev pub opening : ℕ → List ℕ → Opening
opening m w = record { mark = m; words = w }

-- 27 for too little memory, else 0 and the table's words are 0
unfoldable pub open_of : List ℕ → List ℕ → Opening
open_of w b =
    if leb table_words (length w)
    then (if leb table_bytes (length b) then opening 0 (written (replicate table_words 0) w) else opening out_of_bounds w)
    else opening out_of_bounds w

abbrev pub open_mark : List ℕ → List ℕ → ℕ
open_mark w b = (open_of w b).mark

abbrev pub open_words : List ℕ → List ℕ → List ℕ
open_words w b = (open_of w b).words

-- the name of a number: 27, then 37 for no such number, both with an empty name
unfoldable pub mark_of : List ℕ → List ℕ → ℕ → ℕ
mark_of w b n =
    if is_in_bounds w b
    then (if ltb n table_names
    then (if ltb (n % half_names) (count w (n / half_names)) then 0 else no_name)
    else no_name)
    else out_of_bounds

unfoldable pub place_of : List ℕ → List ℕ → ℕ → Place
place_of w b n = if eqb (mark_of w b n) 0 then place_at w (n / half_names) (n % half_names) else nowhere

unfoldable pub name_of : List ℕ → List ℕ → ℕ → List ℕ
name_of w b n = cut (place_of w b n) b
