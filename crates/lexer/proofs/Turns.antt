-- A turn, by the first character that is no blank: what the turn gives there, and that the items of the definition from the same place
-- on are those of that extent and the ones after it.
use Rattle.std.proofs.Common.{None, Option, Some}
use Rattle.chars.specs.Utf8.{sequences, chars}
use Rattle.chars.specs.Encode.{width}
use Rattle.chars.specs.Blank.{is_blank}
use Rattle.items.specs.Readers.{Read, read_item}
use Rattle.items.specs.Items.{Place, Item, range_after, extent_items, items_from}
use Rattle.items.proofs.Run.{turns_enough, read_left}
use Rattle.laws.proofs.Choice.{by_bool, impossible}
use Rattle.laws.proofs.Places.{past}
use Rattle.lexer.specs.Reading.{ends, moved, turn_at, turn_from, turn, start_from, first_at}
use Rattle.lexer.specs.declared.Spot.{Spot}
use Rattle.lexer.specs.declared.FirstChar.{FirstChar}
use Rattle.lexer.proofs.CharacterAt.{Here, char_here}
use Prim.Native.Nat.{ℕ, ◌+◌, ◌≤◌}
use mathlib.Core.Path.{◌≡◌, refl, sym, ap, ◌∙◌}
use mathlib.Core.Bool.{Bool, false}
use mathlib.Core.List.{List, [], ◌∷◌, ◌++◌}
use lib.ListN.{length, drop}
use native.Mathlib.Omega.{arith}
use native.Mathlib.Nat.{le_refl}

-- the items of the definition from a place on, with the last range there
abbrev pub items_on : Bool → Place → ℕ → List ℕ → List Item
items_on report last at cs = items_from report (length cs) last at cs

-- those of the extent that starts with c at a, and those after it
abbrev pub extent_then : Bool → Place → ℕ → ℕ → List ℕ → List Item
extent_then report last a c cs =
    let r : Read = read_item report a c cs in
    extent_items report last a r.what r.item ++ items_on report (range_after report last a r.what r.item) r.item.at r.rest

same_first : (x y : FirstChar) → Some x ≡ Some y → x ≡ y
same_first x y e = cc

-- c at a is the first that is no blank of the characters cs from `at` on, and n is the place past it
pub record Started (s : List ℕ) (at : ℕ) (cs : List ℕ) (c a n : ℕ) : Type 0 where
  pub ahead : at ≤ a
  pub first : chars (drop a s) ≡ c ∷ chars (drop n s)
  pub next : n ≡ a + width c
  pub solid : is_blank c ≡ false
  pub turn : (p : Spot) → turn_from p at cs ≡ turn_at p a c (chars (drop n s))
  pub items : (report : Bool) (last : Place) → items_on report last at cs ≡ extent_then report last a c (chars (drop n s))

module _ (s : List ℕ) where
  -- at a character that is no blank
  start_here : (at c : ℕ) (cs : List ℕ) → c ∷ cs ≡ chars (drop at s) → is_blank c ≡ false → Started s at (c ∷ cs) c at (at + width c)
  unfolding turn_from items_from
  start_here at c cs e b =
      let k : Here s at c cs = char_here s at c cs (sym e) in
      record {
        ahead = le_refl at;
        first = sym e ∙ ap (λ (l : List ℕ). c ∷ l) k.rest;
        next = refl;
        solid = b;
        turn = λ p. rw (b, turn_from) (ap (turn_at p at c) k.rest);
        items = λ report last. rw (b, items_from) (rw (← k.rest)
            (ap (λ (l : List Item). extent_items report last at (read_item report at c cs).what (read_item report at c cs).item ++ l)
            (turns_enough report (length cs) (length (read_item report at c cs).rest) _ _ (read_item report at c cs).rest (read_left report at c cs) (le_refl _))));
      }

  pub started : (cs : List ℕ) (at : ℕ) → cs ≡ chars (drop at s) → (c a n : ℕ) → start_from at cs ≡ first_at c a n → Started s at cs c a n
  unfolding start_from turn_from items_from
  started [] at e c a n f = impossible cc
  started (d ∷ cs) at e c a n f = by_bool (is_blank d)
      (λ b. let k : Here s at d cs = char_here s at d cs (sym e) in
      let m : Started s (at + width d) cs c a n = started cs (at + width d) k.rest c a n (rw b at f) in
      record {
        ahead = omega (arith, m.ahead);
        first = m.first;
        next = m.next;
        solid = m.solid;
        turn = λ p. rw (b, turn_from) (m.turn p);
        items = λ report last. rw (b, items_from) (m.items report last);
      })
      (λ b. let q : first_at d at (at + width d) ≡ first_at c a n = rw b at f in
      let x = sym (same_first _ _ q) in
      let o : c ≡ d = ap (λ (y : FirstChar). y.code) x in
      let p : a ≡ at = ap (λ (y : FirstChar). y.at) x in
      let r : n ≡ at + width d = ap (λ (y : FirstChar). y.past) x in
      rw (o, p, r) (start_here at d cs e b))

-- only blanks are left
pub none_started : (cs : List ℕ) (at : ℕ) → start_from at cs ≡ None
    → ((p : Spot) → turn_from p at cs ≡ ends) × ((report : Bool) (last : Place) → items_on report last at cs ≡ [])
unfolding start_from turn_from items_from
none_started [] at f = ((λ p. refl), (λ report last. refl))
none_started (d ∷ cs) at f = by_bool (is_blank d)
    (λ b. let m = none_started cs (at + width d) (rw b at f) in
    ((λ p. rw (b, turn_from) (m.0 p)), (λ report last. rw (b, items_from) (m.1 report last))))
    (λ b. let q : first_at d at (at + width d) ≡ None = rw b at f in impossible cc)

-- ---- a turn of a spot

pub turn_started : (s : List ℕ) (p : Spot) (c a n : ℕ) → Started s p.at (chars (drop p.at s)) c a n → turn s p ≡ turn_at p a c (chars (drop n s))
unfolding turn
turn_started s p c a n S = S.turn p

pub turn_nothing : (s : List ℕ) (p : Spot) → start_from p.at (chars (drop p.at s)) ≡ None → turn s p ≡ ends
unfolding turn
turn_nothing s p f = (none_started (chars (drop p.at s)) p.at f).0 p

-- past blanks a turn is what it was before them
pub turn_past : (s : List ℕ) (p : Spot) (at next : ℕ) (last : Place) (second : Bool) → start_from next (chars (drop next s)) ≡ start_from at (chars (drop at s))
    → turn s (moved p next last second) ≡ turn s (moved p at last second)
turn_past s p at next last second e = go (start_from at (chars (drop at s))) refl
  where
    go : (o : Option FirstChar) → start_from at (chars (drop at s)) ≡ o → turn s (moved p next last second) ≡ turn s (moved p at last second)
    go (Some x) f =
        turn_started s (moved p next last second) x.code x.at x.past (started s (chars (drop next s)) next refl x.code x.at x.past (e ∙ f))
        ∙ sym (turn_started s (moved p at last second) x.code x.at x.past (started s (chars (drop at s)) at refl x.code x.at x.past f))
    go None f = turn_nothing s (moved p next last second) (e ∙ f) ∙ sym (turn_nothing s (moved p at last second) f)

-- past the last character there is no turn
pub turn_end : (s : List ℕ) (p : Spot) → length s ≤ p.at → turn s p ≡ ends
unfolding start_from chars sequences
turn_end s p h = turn_nothing s p (ap (λ (l : List ℕ). start_from p.at (chars l)) (past s p.at h))
