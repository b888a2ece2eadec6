-- What a piece call gives as an item's text is the text that the whole-text side says the item has: an item's text lies in its extent, so it is
-- the same part of the extent's bytes and of the source; decoded text is the same bytes.
use Prim.Native.Nat.{ℕ, ◌+◌, ◌-◌, ◌≤◌}
use mathlib.Core.Path.{◌≡◌, refl, ap, ◌∙◌}
use mathlib.Core.Bool.{Bool}
use mathlib.Core.List.{List, []}
use lib.ListN.{take, drop}
use lib.Seq.{take-take, drop-drop}
use native.Mathlib.Omega.{arith}
use Rattle.laws.proofs.Places.{drop-take}
use Rattle.chars.specs.Utf8.{chars}
use Rattle.items.specs.Items.{Item, items, byte_count}
use Rattle.items.specs.Meaning.{Text, none, source, decoded}
use Rattle.items.proofs.Every.{Every, every_then}
use Rattle.items.proofs.Meanings.{Inside}
use Rattle.items.proofs.Order.{Placed, items_placed}
use Rattle.pieces.specs.Given.{copied, given}
use Rattle.lexer.proofs.Placed.{item_text, HasText}

-- the part from a to b of what stands from s to e
part_of : (s a b e : ℕ) (l : List ℕ) → s ≤ a → a ≤ b → b ≤ e → take (b - a) (drop (a - s) (take (e - s) (drop s l))) ≡ take (b - a) (drop a l)
part_of s a b e l p q r =
    let k : ℕ = a - s in
    let all : e - s ≡ k + (e - a) = omega arith in
    let here : s + k ≡ a = omega arith in
    ap (λ (n : ℕ). take (b - a) (drop k (take n (drop s l)))) all
    ∙ ap (take (b - a)) (drop-take k (e - a) (drop s l))
    ∙ take-take (b - a) (e - a) (drop k (drop s l)) (omega arith)
    ∙ ap (take (b - a)) (drop-drop k s l ∙ ap (λ (n : ℕ). drop n l) here)

-- the bytes of an item's extent
abbrev pub extent_of : List ℕ → Item → List ℕ
extent_of bytes i = take (i.end - i.start) (drop i.start bytes)

abbrev pub SameText : List ℕ → Item → Type 0
SameText bytes i = HasText i.text → (depth : ℕ) → (given depth (extent_of bytes i) i).text ≡ item_text bytes i.text

same_text : (bytes : List ℕ) (i : Item) → Inside i.start i.end i.text → SameText bytes i
same_text bytes i h has depth = go i.text h has
  where
    go : (t : Text) → Inside i.start i.end t → HasText t → copied i.kind i.start (extent_of bytes i) t ≡ item_text bytes t
    go none h has = absurd has
    go (source a b) h has = part_of i.start a b i.end bytes h.0 h.1.0 h.1.1
    go (decoded bs) h has = refl

-- for every item of a text that has text
pub texts_same : (report : Bool) (bytes : List ℕ) → Every (SameText bytes) (items report (chars bytes))
texts_same report bytes =
    every_then (Placed (byte_count (chars bytes))) (SameText bytes) (λ i p. same_text bytes i p.text) (items report (chars bytes))
    (items_placed report (chars bytes))
