-- The definition, part 3: the items of a text, their records and their texts. Document 01, "An item".
use Rattle.std.specs.Prelude.{ℕ, zero, suc, ◌+◌, ◌-◌, Bool, true, false, ◌&&◌, List, [], ◌∷◌, ◌++◌, length, drop, eqb, leb, ltb, if◌then◌else◌, Err, Ok, Result}
use Rattle.laws.specs.Quoted.{code}
use Rattle.chars.specs.Encode.{width}
use Rattle.chars.specs.Blank.{is_blank}
use Rattle.items.specs.declared.Outcome.{Outcome}
use Rattle.items.specs.declared.Outcome.TheVariants.{Token, Str, HereStr, Word, Run, Lined, Keyword, Character, Error, ErrorAt}
use Rattle.items.specs.declared.Nine.{Nine}
use Rattle.items.specs.declared.Record.{Record}
use Rattle.items.specs.declared.CharError.{CharError}
use Rattle.items.specs.declared.CharError.TheVariants.{Wrong, WrongAt}
use Rattle.items.specs.Kinds as kind
use Rattle.items.specs.Readers.{SoFar, Read, past_failing, read_item}
use Rattle.items.specs.Meaning.{Text, none, source, decoded, Meaning, meaning_of, character_of, char_inside}

-- ---- places

pub record Place : Type 0 where
  pub from : ℕ
  pub to : ℕ

abbrev pub range : ℕ → ℕ → Place
range a b = record { from = a; to = b }

-- no `error` range was set yet
abbrev pub unset : Place
unset = range 0 0

-- a character that fails p bytes after `#\`, its extent starting at s, sets in report mode what fails there
abbrev pub failing_at : ℕ → ℕ → ℕ → List ℕ → Place
failing_at s d p raw = range (s + 2 + p) (past_failing d (s + 2 + p) (drop p (char_inside raw)))

-- a character that is none sets its extent, or what fails in it (02 (vii))
abbrev pub character_sets : Bool → Result ℕ CharError → Place → ℕ → SoFar → Place
character_sets report (Ok c) last s i = last
character_sets report (Err (Wrong e d)) last s i = range s i.at
character_sets report (Err (WrongAt e d p)) last s i = if report then failing_at s d p i.bytes else range s i.at

-- The last `error` range after an item that starts at s: its own where it sets one, else the one before. Errors 1 to 4, 7 and 8 set none
abbrev pub range_after : Bool → Place → ℕ → Outcome → SoFar → Place
range_after report last s (Token k d) i = last
range_after report last s Str i = last
range_after report last s HereStr i = last
range_after report last s Word i = last
range_after report last s Run i = last
range_after report last s Lined i = last
range_after report last s Keyword i = last
range_after report last s Character i = character_sets report (character_of report (char_inside i.bytes)) last s i
range_after report last s (Error n d) i = last
range_after report last s (ErrorAt n d a b) i = range a b

-- The range that an item finds set: in plain mode the last one since the start of the text; in report mode none, so that an error points
-- at its own place (02 (ii))
abbrev pub standing : Bool → Place → Place
standing true last = unset
standing false last = last

-- whether a range was set. In report mode an error's own range may be empty, and never is at the start of the text
abbrev pub is_set : Bool → Place → Bool
is_set true p = ltb 0 p.to
is_set false p = ltb p.from p.to

-- 01: place equals extent except for errors; an error's "is the last `error` range set since the start of the text, or its extent if
-- none was set" (E10). `last` is that range, the item's own counted in; in report mode it is the item's own alone
abbrev pub place_of : Bool → ℕ → Place → Place → Place
place_of report k last extent = if leb kind.first_error k && is_set report last then last else extent

-- ---- items

pub record Item : Type 0 where
  pub kind : ℕ
  pub detail : ℕ
  pub start : ℕ
  pub end : ℕ
  pub place : Place
  pub text : Text

abbrev pub item_of : Bool → Place → ℕ → ℕ → Meaning → Item
item_of report last s e m = record { kind = m.kind; detail = m.detail; start = s; end = e; place = place_of report m.kind last (range s e); text = m.text }

abbrev pub items_of : Bool → Place → ℕ → ℕ → List Meaning → List Item
items_of report last s e [] = []
items_of report last s e (m ∷ ms) = item_of report last s e m ∷ items_of report last s e ms

-- the items of one extent, which starts at s
unfoldable pub extent_items : Bool → Place → ℕ → Outcome → SoFar → List Item
extent_items report last s o i = items_of report (range_after report (standing report last) s o i) s i.at (meaning_of report o s i.at i.bytes)

-- The items of the characters from the place `at` on. A blank is passed over; else an item is read, and reading goes on after its
-- extent. Each turn takes a character or more, so as many turns as there are characters are enough
unfoldable pub items_from : Bool → ℕ → Place → ℕ → List ℕ → List Item
items_from report zero last at cs = []
items_from report (suc turns) last at [] = []
items_from report (suc turns) last at (c ∷ cs) =
    elim (is_blank c) [
      | true ↦ items_from report turns last (at + width c) cs
      | false ↦
          let r : Read = read_item report at c cs in
          extent_items report last at r.what r.item
          ++ items_from report turns (range_after report last at r.what r.item) r.item.at r.rest
    ]

abbrev pub items_at : Bool → ℕ → List ℕ → List Item
items_at report at cs = items_from report (length cs) unset at cs

-- a first line that starts with `#!` is passed over, up to its newline: `strip_shebang_line`
unfoldable pub past_line : Bool → ℕ → List ℕ → List Item
past_line report at [] = []
past_line report at (c ∷ cs) = elim (eqb c (code "\n")) [ true ↦ items_at report at (c ∷ cs) | false ↦ past_line report (at + width c) cs ]

unfoldable pub after_pound : Bool → List ℕ → List Item
after_pound report [] = items_at report 0 (code "#" ∷ [])
after_pound report (c ∷ cs) = elim (eqb c (code "!")) [ true ↦ past_line report 2 cs | false ↦ items_at report 0 (code "#" ∷ c ∷ cs) ]

-- the items of a text, comments kept
unfoldable pub items : Bool → List ℕ → List Item
items report [] = []
items report (c ∷ cs) = elim (eqb c (code "#")) [ true ↦ after_pound report cs | false ↦ items_at report 0 (c ∷ cs) ]

-- skipping comments leaves them out, and nothing else
unfoldable pub kept : Bool → List Item → List Item
kept skip [] = []
kept skip (i ∷ is) = let more = kept skip is in if skip && eqb i.kind kind.Comment then more else i ∷ more

-- ---- depth: 02 (vi), "the number of open brackets before the item, where a close with none open leaves it at 0"

-- how many open brackets a word can tell. No text has as many; a position that a caller makes up may stand there, and stays
abbrev pub most_open : ℕ
most_open = 4294967295

-- the depth after an item of a kind, from the depth before it: any of the brackets opens or closes, whatever its shape
abbrev pub depth_after : ℕ → ℕ → ℕ
depth_after k d = if eqb k kind.OpenParen then (if ltb d most_open then suc d else d) else (if eqb k kind.CloseParen then d - 1 else d)

-- the depth after some items
unfoldable pub depth_past : ℕ → List Item → ℕ
depth_past d [] = d
depth_past d (i ∷ is) = depth_past (depth_after i.kind d) is

-- ---- records. `free` is the first free byte of the text memory

-- how many words a record has, and how many of them an item has by itself
abbrev pub record_words : ℕ
record_words = 10

abbrev pub own_words : ℕ
own_words = 9

abbrev pub text_words : ℕ → Text → List ℕ
text_words free none = 0 ∷ 0 ∷ 0 ∷ []
text_words free (source a b) = 1 ∷ a ∷ b ∷ []
text_words free (decoded bs) = 2 ∷ free ∷ (free + length bs) ∷ []

-- an item by itself: demand 2 speaks of these nine words
abbrev pub nine_of : ℕ → Item → List ℕ
nine_of free i = i.kind ∷ i.detail ∷ i.start ∷ i.end ∷ i.place.from ∷ i.place.to ∷ text_words free i.text

-- and with its depth
abbrev pub record_of : ℕ → ℕ → Item → List ℕ
record_of free depth i = nine_of free i ++ (depth ∷ [])

-- the words of a record, as they lie in lent memory
abbrev pub nine_words : Nine → List ℕ
nine_words r = r.kind ∷ r.detail ∷ r.start ∷ r.end ∷ r.from ∷ r.to ∷ r.source ∷ r.first ∷ r.past ∷ []

abbrev pub words_of : Record → List ℕ
words_of r = nine_words r.nine ++ (r.depth ∷ [])

-- the bytes of a text that go into the text memory
abbrev pub memory_of : Text → List ℕ
memory_of none = []
memory_of (source a b) = []
memory_of (decoded bs) = bs

-- the words of all records, and the bytes of all decoded texts, in order; `depth` is the depth before the first item
unfoldable pub records : ℕ → ℕ → List Item → List ℕ
records free depth [] = []
records free depth (i ∷ is) = record_of free depth i ++ records (free + length (memory_of i.text)) (depth_after i.kind depth) is

unfoldable pub texts : List Item → List ℕ
texts [] = []
texts (i ∷ is) = memory_of i.text ++ texts is

-- ---- pieces: 01, "an item is ready once a character beyond its extent has been read"

-- the bytes of some characters
abbrev pub byte_count : List ℕ → ℕ
byte_count [] = 0
byte_count (c ∷ cs) = width c + byte_count cs

-- the items whose extents end before the place n
unfoldable pub ends_before : ℕ → List Item → List Item
ends_before n [] = []
ends_before n (i ∷ is) = let more = ends_before n is in if ltb i.end n then i ∷ more else more
