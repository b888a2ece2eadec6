-- What a turn gives, a case for each way that it goes: an extent has one item or two, of which the first or the second is given.
use Rattle.chars.specs.Utf8.{chars}
use Rattle.chars.specs.Blank.{is_blank}
use Rattle.items.specs.Readers.{SoFar}
use Rattle.items.specs.Items.{Item, range_after, extent_items}
use Rattle.items.specs.declared.Outcome.{Outcome}
use Rattle.items.proofs.OneOrTwo.{OneOrTwo, few_items}
use Rattle.laws.proofs.Choice.{by_bool}
use Rattle.meaning.specs.Places.{place_in}
use Rattle.lexer.specs.Reading.{gives, moved, turn_of, turn_at, turn_from, turn}
use Rattle.lexer.specs.declared.Spot.{Spot}
use Prim.Native.Nat.{ℕ}
use mathlib.Core.Path.{◌≡◌, refl, ap, ◌∙◌}
use mathlib.Core.Bool.{true, false}
use mathlib.Core.List.{List, [], ◌∷◌}
use lib.ListN.{drop}
use native.Mathlib.Omega.{arith}

module _ (p : Spot) (s : ℕ) (what : Outcome) (i : SoFar) where
  -- where reading goes on: past the extent, or at its start again
  abbrev pub past : Spot
  past = moved p i.at (range_after p.report (place_in p.last) s what i) false

  abbrev pub halfway : Spot
  halfway = moved p s (place_in p.last) true

  abbrev pub both : List Item
  both = extent_items p.report (place_in p.last) s what i

  pub by_turn : {P : Type 0} → ((x : Item) → both ≡ x ∷ [] → turn_of p s what i ≡ gives x past → P)
      → ((x y : Item) → both ≡ x ∷ y ∷ [] → p.second ≡ false → turn_of p s what i ≡ gives x halfway → P)
      → ((x y : Item) → both ≡ x ∷ y ∷ [] → p.second ≡ true → turn_of p s what i ≡ gives y past → P)
      → P
  by_turn {P} f g h = go both refl (few_items p.report (place_in p.last) s what i)
    where
      go : (l : List Item) → both ≡ l → OneOrTwo l → P
      go [] e few = absurd (omega arith)
      go (x ∷ []) e few = f x e (rw e)
      go (x ∷ y ∷ []) e few = by_bool p.second (λ b. h x y e b (rw (e, b))) (λ b. g x y e b (rw (e, b)))
      go (x ∷ y ∷ z ∷ l) e few = absurd (omega arith)

-- a turn at a character that is no blank
pub turn_here : (s : List ℕ) (p : Spot) (c : ℕ) (cs : List ℕ) → chars (drop p.at s) ≡ c ∷ cs → is_blank c ≡ false → turn s p ≡ turn_at p p.at c cs
unfolding turn turn_from
turn_here s p c cs e b = ap (turn_from p p.at) e ∙ rw (b, turn_from)
