-- Reading on gives the items of the definition, one after the other: turn by turn all of them, and where comments are skipped those that
-- are kept. A spot's size falls with every turn, so that as many turns as the size are enough.
use Rattle.std.proofs.Common.{None, Option, Some}
use Rattle.chars.specs.Utf8.{chars}
use Rattle.items.specs.Kinds as kind
use Rattle.items.specs.Readers.{Read, read_item}
use Rattle.items.specs.Items.{Item, kept}
use Rattle.meaning.specs.Places.{place_in}
use Rattle.laws.proofs.Choice.{by_bool, impossible}
use Rattle.lexer.specs.Reading.{Turn, gives, ends, turn_of, turn, start_from, size_of, next_at, and_then, all_from, all_items}
use Rattle.lexer.specs.declared.Spot.{Spot}
use Rattle.lexer.specs.declared.FirstChar.{FirstChar}
use Rattle.lexer.proofs.Left.{left_here}
use Rattle.lexer.proofs.Turns.{items_on, Started, started, none_started}
use Rattle.lexer.proofs.Cases.{past, halfway, both, by_turn, turn_here}
use Rattle.lexer.proofs.Moves.{Moved, turn_moved}
use Rattle.lexer.proofs.Nexts.{next_at_skips, next_at_gives, next_at_ends}
use Prim.Native.Nat.{ℕ, zero, suc, ◌<◌}
use mathlib.Core.Path.{◌≡◌, refl, sym, ap, ◌∙◌}
use mathlib.Core.Bool.{Bool, true, false, ◌&&◌}
use mathlib.Core.List.{List, [], ◌∷◌, ◌++◌}
use lib.ListN.{drop}
use lib.Dec.{eqb}
use native.Mathlib.Omega.{arith}

module _ (s : List ℕ) where
  -- all that turns give
  unfoldable turns_from : ℕ → Spot → List Item
  turns_from zero p = []
  turns_from (suc n) p = and_then (turn s p) (λ q. turns_from n q)

  turns_give : (n : ℕ) (p q : Spot) (i : Item) → turn s p ≡ gives i q → turns_from (suc n) p ≡ i ∷ turns_from n q
  unfolding turns_from
  turns_give n p q i e = rw e

  turns_end : (n : ℕ) (p : Spot) → turn s p ≡ ends → turns_from (suc n) p ≡ []
  unfolding turns_from
  turns_end n p e = rw e

  -- the items of the definition from a spot on
  abbrev items_after : Spot → List Item
  items_after p = items_on p.report (place_in p.last) p.at (chars (drop p.at s))

  -- ---- turn by turn

  module _ (k : ℕ) (rec : (m : ℕ) (p : Spot) → p.second ≡ false → size_of s p < k → size_of s p < m → turns_from m p ≡ items_after p)
      (p : Spot) (b : p.second ≡ false) (size : size_of s p < suc k) (c a n : ℕ) (S : Started s p.at (chars (drop p.at s)) c a n) where
    abbrev it : Read
    it = read_item p.report a c (chars (drop n s))

    abbrev gone : Spot
    gone = past p a it.what it.item

    abbrev stay : Spot
    stay = halfway p a it.what it.item

    turns : turn s p ≡ turn_of p a it.what it.item
    unfolding turn
    turns = S.turn p

    rest : it.rest ≡ chars (drop it.item.at s)
    rest = (left_here s p.report a c (chars (drop n s)) S.first).rest

    -- the items are those of the extent and those after it
    splits : items_after p ≡ both p a it.what it.item ++ items_after gone
    splits = S.items p.report (place_in p.last) ∙ rw rest

    falls : (x : Item) (q : Spot) → turn s p ≡ gives x q → size_of s q < size_of s p
    falls x q e = (turn_moved s p x q e).smaller

    single : (m : ℕ) (x : Item) → both p a it.what it.item ≡ x ∷ [] → turn s p ≡ gives x gone → size_of s p < m → turns_from m p ≡ items_after p
    single zero x f g h = absurd (omega arith)
    single (suc m) x f g h =
        let l : size_of s gone < size_of s p = falls x gone g in
        turns_give m p gone x g
        ∙ ap (λ (t : List Item). x ∷ t) (rec m gone refl (omega arith) (omega arith))
        ∙ sym (splits ∙ ap (λ (t : List Item). t ++ items_after gone) f)

    double : (m : ℕ) (x y : Item) → both p a it.what it.item ≡ x ∷ y ∷ [] → turn s p ≡ gives x stay → turn s stay ≡ gives y gone → size_of s p < m
        → turns_from m p ≡ items_after p
    double zero x y f g g' h = absurd (omega arith)
    double (suc zero) x y f g g' h = let l : size_of s stay < size_of s p = falls x stay g in absurd (omega arith)
    double (suc (suc m)) x y f g g' h =
        let l : size_of s stay < size_of s p = falls x stay g in
        let l' : size_of s gone < size_of s stay = (turn_moved s stay y gone g').smaller in
        turns_give (suc m) p stay x g
        ∙ ap (λ (t : List Item). x ∷ t) (turns_give m stay gone y g' ∙ ap (λ (t : List Item). y ∷ t) (rec m gone refl (omega arith) (omega arith)))
        ∙ sym (splits ∙ ap (λ (t : List Item). t ++ items_after gone) f)

    again : (x y : Item) → both p a it.what it.item ≡ x ∷ y ∷ [] → turn s stay ≡ gives y gone
    again x y f = turn_here s stay c (chars (drop n s)) S.first S.solid ∙ rw f

    one_extent : (m : ℕ) → size_of s p < m → turns_from m p ≡ items_after p
    one_extent m h = by_turn p a it.what it.item
        (λ x f g. single m x f (turns ∙ g) h)
        (λ x y f _ g. double m x y f (turns ∙ g) (again x y f) h)
        (λ x y f t g. let z : true ≡ false = sym t ∙ b in impossible cc)

  all_turns : (k m : ℕ) (p : Spot) → p.second ≡ false → size_of s p < k → size_of s p < m → turns_from m p ≡ items_after p
  unfolding turn
  all_turns zero m p b h g = absurd (omega arith)
  all_turns (suc k) m p b h g = go (start_from p.at (chars (drop p.at s))) refl (λ m p b h g. all_turns k m p b h g)
    where
      nothing : (m : ℕ) → size_of s p < m → turn s p ≡ ends → items_after p ≡ [] → turns_from m p ≡ items_after p
      nothing zero h e f = absurd (omega arith)
      nothing (suc m) h e f = turns_end m p e ∙ sym f

      go : (x : Option FirstChar) → start_from p.at (chars (drop p.at s)) ≡ x
          → ((m : ℕ) (p : Spot) → p.second ≡ false → size_of s p < k → size_of s p < m → turns_from m p ≡ items_after p)
          → turns_from m p ≡ items_after p
      go (Some x) f rec = one_extent k rec p b h x.code x.at x.past (started s (chars (drop p.at s)) p.at refl x.code x.at x.past f) m g
      go None f rec =
          let z = none_started (chars (drop p.at s)) p.at f in
          nothing m g (z.0 p) (z.1 p.report (place_in p.last))

  -- ---- with skipped comments

  pub next_all : (m : ℕ) (p q : Spot) → next_at s p ≡ next_at s q → all_from (suc m) s p ≡ all_from (suc m) s q
  unfolding all_from
  next_all m p q e = ap (λ (t : Turn). and_then t (λ u. all_from m s u)) e

  pub all_gives : (m : ℕ) (p q : Spot) (i : Item) → next_at s p ≡ gives i q → all_from (suc m) s p ≡ i ∷ all_from m s q
  unfolding all_from
  all_gives m p q i e = rw e

  pub all_ends : (m : ℕ) (p : Spot) → next_at s p ≡ ends → all_from (suc m) s p ≡ []
  unfolding all_from
  all_ends m p e = rw e

  drops : (skip : Bool) (i : Item) (is : List Item) → (skip && eqb i.kind kind.Comment) ≡ true → kept skip (i ∷ is) ≡ kept skip is
  unfolding kept
  drops skip i is b = rw (b, kept)

  keeps : (skip : Bool) (i : Item) (is : List Item) → (skip && eqb i.kind kind.Comment) ≡ false → kept skip (i ∷ is) ≡ i ∷ kept skip is
  unfolding kept
  keeps skip i is b = rw (b, kept)

  kept_none : (skip : Bool) → kept skip [] ≡ []
  unfolding kept
  kept_none skip = refl

  all_kept : (k m n : ℕ) (p : Spot) → size_of s p < k → size_of s p < m → size_of s p < n → all_from m s p ≡ kept p.skip (turns_from n p)
  all_kept zero m n p h f g = absurd (omega arith)
  all_kept (suc k) zero n p h f g = absurd (omega arith)
  all_kept (suc k) (suc m) zero p h f g = absurd (omega arith)
  all_kept (suc k) (suc m) (suc n) p h f g = go (λ m n p h f g. all_kept k m n p h f g) (turn s p) refl
    where
      go : ((m n : ℕ) (p : Spot) → size_of s p < k → size_of s p < m → size_of s p < n → all_from m s p ≡ kept p.skip (turns_from n p))
          → (t : Turn) → turn s p ≡ t → all_from (suc m) s p ≡ kept p.skip (turns_from (suc n) p)
      go rec ends e = all_ends m p (next_at_ends s p e) ∙ sym (ap (kept p.skip) (turns_end n p e) ∙ kept_none p.skip)
      go rec (gives i q) e =
          let M : Moved s p i q = turn_moved s p i q e in
          by_bool (p.skip && eqb i.kind kind.Comment)
          (λ b. next_all m p q (next_at_skips s p q i e b)
          ∙ rec (suc m) n q (omega (arith, M.smaller)) (omega (arith, M.smaller)) (omega (arith, M.smaller))
          ∙ ap (λ (x : Bool). kept x (turns_from n q)) M.skip
          ∙ sym (ap (kept p.skip) (turns_give n p q i e) ∙ drops p.skip i (turns_from n q) b))
          (λ b. all_gives m p q i (next_at_gives s p q i e b)
          ∙ ap (λ (l : List Item). i ∷ l) (rec m n q (omega (arith, M.smaller)) (omega (arith, M.smaller)) (omega (arith, M.smaller)) ∙ ap (λ (x : Bool). kept x (turns_from n q)) M.skip)
          ∙ sym (ap (kept p.skip) (turns_give n p q i e) ∙ keeps p.skip i (turns_from n q) b))

  -- all that reading on gives from a spot between extents
  pub all_read : (p : Spot) → p.second ≡ false → all_items s p ≡ kept p.skip (items_on p.report (place_in p.last) p.at (chars (drop p.at s)))
  unfolding all_items
  all_read p b =
      let n : ℕ = suc (size_of s p) in
      all_kept n n n p (omega arith) (omega arith) (omega arith) ∙ ap (kept p.skip) (all_turns n n p b (omega arith) (omega arith))
