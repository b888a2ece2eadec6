-- What the code makes of an extent is what the definition gives: its one meaning or two are the definition's, and the nine words built of
-- a meaning are those of its item.
use Rattle.std.proofs.Common.{Option}
use Rattle.laws.proofs.Choice.{impossible}
use Rattle.items.specs.Readers.{so_far}
use Rattle.items.specs.Meaning.{Text, none, source, decoded, Meaning, means, meaning_of}
use Rattle.items.specs.Items.{Place, range, place_of, Item, item_of, items_of, range_after, standing, extent_items}
use Rattle.items.specs.declared.Outcome.{Outcome}
use Rattle.items.specs.declared.Nine.{Nine}
use Rattle.meaning.specs.declared.Range.{Range}
use Rattle.meaning.specs.declared.Means.{Means}
use Rattle.meaning.specs.Meant.{sized, sized_all}
use Rattle.meaning.specs.Places.{place_in, range_of}
use Rattle.meaning.specs.Records.{packed, nine_for, TextFits}
use Rattle.lexer.specs.Reading.{Turn, gives, moved, pick, turn_of, found_of, one_found}
use Rattle.lexer.specs.Inner.{TextsFit}
use Rattle.lexer.specs.declared.Spot.{Spot}
use Rattle.lexer.specs.declared.Found.{Found}
use Prim.Native.Nat.{ℕ, ◌+◌}
use mathlib.Core.Path.{◌≡◌, refl, sym, ap, ◌∙◌}
use mathlib.Core.Bool.{Bool, true, false}
use mathlib.Core.List.{List, [], ◌∷◌}
use lib.ListN.{length}

-- a lone meaning, and two
one_meant : (l : List Meaning) (m : Means) → m ∷ [] ≡ sized_all l → (x : Meaning) × ((l ≡ x ∷ []) × (sized x ≡ m))
one_meant [] m e = impossible cc
one_meant (x ∷ []) m e = let z : m ≡ sized x = cc in (x, (refl, sym z))
one_meant (x ∷ y ∷ l) m e = impossible cc

two_meant : (l : List Meaning) (m n : Means) → m ∷ n ∷ [] ≡ sized_all l → (x : Meaning) × ((y : Meaning) × ((l ≡ x ∷ y ∷ []) × ((sized x ≡ m) × (sized y ≡ n))))
two_meant [] m n e = impossible cc
two_meant (x ∷ []) m n e = impossible cc
two_meant (x ∷ y ∷ []) m n e = let z : m ≡ sized x = cc in let w : n ≡ sized y = cc in (x, (y, (refl, (sym z, sym w))))
two_meant (x ∷ y ∷ v ∷ l) m n e = impossible cc

pub fits_one : (free : ℕ) (l : List Meaning) (m : Means) → m ∷ [] ≡ sized_all l → TextsFit free l → TextFits free m.text
fits_one free [] m e h = impossible cc
fits_one free (x ∷ l) m e h = let z : m ≡ sized x = cc in rw z h.0

pub fits_two : (free : ℕ) (l : List Meaning) (m n : Means) → m ∷ n ∷ [] ≡ sized_all l → TextsFit free l → TextFits free m.text × TextFits free n.text
fits_two free [] m n e h = impossible cc
fits_two free (x ∷ []) m n e h = impossible cc
fits_two free (x ∷ y ∷ l) m n e h = let z : m ≡ sized x = cc in let w : n ≡ sized y = cc in (rw z h.0, rw w h.1.0)

packed_is : (free : ℕ) (report : Bool) (last : Place) (s e k d : ℕ) (t : Text)
    → nine_for free (sized (means k d t)) (range_of (range s e)) (range_of (place_of report k last (range s e))) ≡ packed free (item_of report last s e (means k d t))
packed_is free report last s e k d none = refl
packed_is free report last s e k d (source a b) = refl
packed_is free report last s e k d (decoded bs) = refl

module _ (free : ℕ) (p : Spot) (start : ℕ) (what : Outcome) (raw : List ℕ) where
  abbrev end : ℕ
  end = start + length raw

  abbrev after : Place
  after = range_after p.report (place_in p.last) start what (so_far raw end)

  -- the range that an error's place is taken from
  abbrev shown : Place
  shown = range_after p.report (standing p.report (place_in p.last)) start what (so_far raw end)

  abbrev extent : Range
  extent = range_of (range start end)

  -- what the code makes of a meaning
  abbrev made : Means → Range → Spot → Option Found
  made m last q = one_found (nine_for free m extent (range_of (place_of p.report m.kind (place_in last) (place_in extent)))) q

  made_is : (x : Meaning) (m : Means) (last : Range) (q : Spot) → sized x ≡ m → last ≡ range_of shown
      → made m last q ≡ one_found (packed free (item_of p.report shown start end x)) q
  made_is x m last q g l =
      ap (λ (y : Means). made y last q) (sym g)
      ∙ ap (λ (y : Range). made (sized x) y q) l
      ∙ ap (λ (y : Nine). one_found y q) (packed_is free p.report shown start end x.kind x.detail x.text)

  abbrev item : Meaning → Item
  item x = item_of p.report shown start end x

  abbrev picked : List Meaning → Turn
  picked l = pick p.second (moved p start (place_in p.last) true) (moved p end after false) (items_of p.report shown start end l)

  turn_of_lem : (l : List Meaning) → meaning_of p.report what start end raw ≡ l → turn_of p start what (so_far raw end) ≡ picked l
  unfolding extent_items
  turn_of_lem l f = ap picked f

  module _ (set last : Range) (g : set ≡ range_of shown) (l : last ≡ range_of after) (r : Option Found) (q : Spot) where
    pub found_one : (m : Means) → m ∷ [] ≡ sized_all (meaning_of p.report what start end raw) → r ≡ made m set q → q ≡ moved p end (place_in last) false
        → r ≡ found_of free (turn_of p start what (so_far raw end))
    found_one m e h u =
        let x = one_meant (meaning_of p.report what start end raw) m e in
        let v : q ≡ moved p end after false = u ∙ ap (λ (y : Range). moved p end (place_in y) false) l in
        h ∙ made_is x.0 m set q x.1.1 g ∙ ap (one_found (packed free (item x.0))) v ∙ sym (ap (found_of free) (turn_of_lem (x.0 ∷ []) x.1.0))

    module _ (m n : Means) (e : m ∷ n ∷ [] ≡ sized_all (meaning_of p.report what start end raw)) where
      pub found_second : p.second ≡ true → r ≡ made n set q → q ≡ moved p end (place_in last) false → r ≡ found_of free (turn_of p start what (so_far raw end))
      found_second b h u =
          let x = two_meant (meaning_of p.report what start end raw) m n e in
          let v : q ≡ moved p end after false = u ∙ ap (λ (y : Range). moved p end (place_in y) false) l in
          let t : picked (x.0 ∷ x.1.0 ∷ []) ≡ gives (item x.1.0) (moved p end after false) = rw b in
          h ∙ made_is x.1.0 n set q x.1.1.1.1 g ∙ ap (one_found (packed free (item x.1.0))) v
          ∙ sym (ap (found_of free) (turn_of_lem (x.0 ∷ x.1.0 ∷ []) x.1.1.0 ∙ t))

      pub found_first : p.second ≡ false → r ≡ made m set q → q ≡ moved p start (place_in p.last) true → r ≡ found_of free (turn_of p start what (so_far raw end))
      found_first b h u =
          let x = two_meant (meaning_of p.report what start end raw) m n e in
          let t : picked (x.0 ∷ x.1.0 ∷ []) ≡ gives (item x.0) (moved p start (place_in p.last) true) = rw b in
          h ∙ made_is x.0 m set q x.1.1.1.0 g ∙ ap (one_found (packed free (item x.0))) u
          ∙ sym (ap (found_of free) (turn_of_lem (x.0 ∷ x.1.0 ∷ []) x.1.1.0 ∙ t))
