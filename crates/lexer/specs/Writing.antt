-- Counting and writing on: what is counted and what the two lent memories hold while the items from a spot on are read, and what a
-- function promises that counts or writes some more.
use Rattle.std.specs.Prelude.{ℕ, ◌+◌, ◌*◌, ◌≤◌, ◌<◌, ◌≡◌, false, List, ◌++◌, length, eqb, if◌then◌else◌}
use Rattle.laws.specs.Lent.{written}
use Rattle.items.specs.Items.{Item, depth_past, record_words, records, texts}
use Rattle.meaning.specs.Places.{place_in}
use Rattle.lexer.specs.Reading.{moved, size_of, all_from, all_items}
use Rattle.lexer.specs.declared.Spot.{Spot}

-- of the items from the spot `start` on some are done, and the others are those from the spot p on
pub record Going (s : List ℕ) (start p : Spot) (free : ℕ) (done : List Item) : Type 0 where
  pub left : ℕ
  pub enough : size_of s p < left
  pub few : length done + size_of s p ≤ size_of s start
  pub behind : free ≤ p.at
  pub bytes : length (texts done) ≡ free
  pub items : all_items s start ≡ done ++ all_from left s p

-- those that are done are n
pub record Counting (s : List ℕ) (start p : Spot) (free n : ℕ) : Type 0 where
  pub done : List Item
  pub going : Going s start p free done
  pub count : length done ≡ n

-- a counting stands at the spot p
pub record Counts (s : List ℕ) (p : Spot) (n : ℕ) : Type 0 where
  pub start : Spot
  pub free : ℕ
  pub counting : Counting s start p free n

-- any counting that stands at the spot p goes on to the spot q, with no decoded text
pub record Further (s : List ℕ) (p : Spot) (n : ℕ) (q : Spot) (n' : ℕ) : Type 0 where
  pub ahead : size_of s q ≤ size_of s p
  pub on : (start : Spot) (free : ℕ) → Counting s start p free n → Counting s start q free n'

-- the records of those that are done are written, w words, and their decoded texts, `free` bytes; `depth` is the depth there
pub record Writing (s : List ℕ) (start : Spot) (recs₀ text₀ recs text : List ℕ) (p : Spot) (free depth w : ℕ) : Type 0 where
  pub done : List Item
  pub going : Going s start p free done
  pub deep : depth_past 0 done ≡ depth
  pub count : length (records 0 0 done) ≡ w
  pub rows : recs ≡ written (records 0 0 done) recs₀
  pub bytes : text ≡ written (texts done) text₀

-- the lent memories have room for all items
pub record Roomy (s : List ℕ) (start : Spot) (recs₀ text₀ : List ℕ) : Type 0 where
  pub rows : record_words * length (all_items s start) ≤ length recs₀
  pub bytes : length (texts (all_items s start)) ≤ length text₀

-- a writing stands at the spot p
pub record Amid (s : List ℕ) (p : Spot) (recs : List ℕ) (free depth w : ℕ) : Type 0 where
  pub start : Spot
  pub recs₀ : List ℕ
  pub text₀ : List ℕ
  pub text : List ℕ
  pub roomy : Roomy s start recs₀ text₀
  pub writing : Writing s start recs₀ text₀ recs text p free depth w

-- any writing that stands at the spot p goes on to the spot q by it, with no decoded text
pub record Onward (s : List ℕ) (p : Spot) (recs : List ℕ) (free depth w : ℕ) (q : Spot) (recs' : List ℕ) (depth' w' : ℕ) : Type 0 where
  pub ahead : size_of s q ≤ size_of s p
  pub on : (start : Spot) (recs₀ text₀ text : List ℕ) → Roomy s start recs₀ text₀ → Writing s start recs₀ text₀ recs text p free depth w
      → Writing s start recs₀ text₀ recs' text q free depth' w'

-- the spot that a counting or a writing got to by items that one look told: where there were none, the first of an extent's two items is
-- still given
abbrev pub told_to : Spot → ℕ → ℕ → ℕ → Spot
told_to p at from w = moved p at (place_in p.last) (if eqb w from then p.second else false)

-- any writing that stands at the spot p goes on by such items to the place `at`
abbrev pub ToldOn : List ℕ → Spot → List ℕ → ℕ → ℕ → ℕ → ℕ → List ℕ → ℕ → ℕ → Type 0
ToldOn s p recs free depth w at recs' depth' w' = (w ≤ w') × Onward s p recs free depth w (told_to p at w w') recs' depth' w'
