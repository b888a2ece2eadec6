-- What it is for a text of a production to be read as one item.
use Rattle.std.specs.Prelude.{ℕ, suc, ◌+◌, ◌-◌, ◌≡◌, Bool, true, List, [], ◌∷◌, ◌++◌, take, drop}
use Rattle.chars.specs.Blank.{is_blank}
use Rattle.chars.specs.Encode.{width, bytes_of}
use Rattle.items.specs.Items.{range, items_from, byte_count, Place, Item}
use Rattle.items.specs.Meaning.{Text, none, source, decoded}

-- what an item's text spells: nothing where the item has no text, else some bytes
pub data Spelling : Type 0 where
  nothing : Spelling
  bytes : List ℕ → Spelling

-- the spelling of a text, of an item whose extent starts at s and has the bytes raw
abbrev pub spelling : ℕ → List ℕ → Text → Spelling
spelling s raw none = nothing
spelling s raw (source a b) = bytes (take (b - a) (drop (a - s) raw))
spelling s raw (decoded bs) = bytes bs

-- an item that is no error: its place is its extent
abbrev pub item : ℕ → ℕ → ℕ → ℕ → Text → Item
item k d s e t = record { kind = k; detail = d; start = s; end = e; place = range s e; text = t }

-- In this mode the characters t, where cs follows, are read as exactly one item of this kind and detail: wherever they stand, its
-- extent is t, its text spells w, and reading goes on at cs as if it began there
pub record ReadAs (report : Bool) (t cs : List ℕ) (k d : ℕ) (w : Spelling) : Type 0 where
  pub text : ℕ → Text
  pub one : (turns at : ℕ) (last : Place)
      → items_from report (suc turns) last at (t ++ cs)
      ≡ item k d at (at + byte_count t) (text at) ∷ items_from report turns last (at + byte_count t) cs
  pub spells : (at : ℕ) → spelling at (bytes_of t) (text at) ≡ w

-- The characters from the place `at` on as a whole: blanks, and texts that are read as one item where they stand; and all their items
pub data Reads (report : Bool) : ℕ → List ℕ → List Item → Type 0 where
  ends : {at : ℕ} → Reads report at [] []
  blank : {at c : ℕ} {cs : List ℕ} {is : List Item} → is_blank c ≡ true → Reads report (at + width c) cs is → Reads report at (c ∷ cs) is
  reads : {at c k d : ℕ} (t cs : List ℕ) {w : Spelling} {is : List Item} (r : ReadAs report (c ∷ t) cs k d w) → Reads report (at + byte_count (c ∷ t)) cs is
      → Reads report at (c ∷ t ++ cs) (item k d at (at + byte_count (c ∷ t)) (r.text at) ∷ is)
