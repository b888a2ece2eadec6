-- The depth of a record by kinds is what the items before it make it, as long as none of them is an error or alien: then each has a kind of
-- the layout, and only OpenParen opens and only CloseParen closes.
use Prim.Native.Nat.{ℕ, zero, suc, ◌+◌, ◌-◌, ◌*◌}
use native.Mathlib.Omega.{arith}
use mathlib.Core.Path.{◌≡◌, refl, sym, ap, ◌∙◌}
use mathlib.Core.Bool.{Bool, true, false, cond}
use mathlib.Core.List.{List, [], ◌∷◌}
use lib.Dec.{eqb, leb, ltb}
use lib.ListN.{get_or}
use Rattle.laws.proofs.Choice.{impossible}
use Rattle.items.specs.Kinds as kind
use Rattle.items.specs.Items.{record_words}
use Rattle.nested.specs.Items.{Item, item, has_detail, sort_of, class_of, class_at, items_from, items_of, count_of, last_error, boolean, number, character, string, symbol}
use Rattle.nested.specs.declared.Class.{Class}
use Rattle.nested.specs.declared.Class.TheVariants.{Alien, Fails, Passes, Drops, Marks, Simple, Opens, Closes, Dots}
use Rattle.nested_theorems.specs.Depth.{after, deeper, depth_of, one_less, ours}
use Rattle.nested_theorems.specs.Trees.{At, here, later}

sorted : (k d n : ℕ) → deeper (sort_of k d) n ≡ after k n
unfolding sort_of
sorted k d n = go (eqb k kind.OpenParen) (eqb k kind.CloseParen) (leb k kind.UnquoteSpliceSyntax) (leb k kind.Require) (eqb k kind.CharacterLiteral)
    (eqb k kind.DatumComment) (eqb k kind.Comment) (eqb k kind.BooleanLiteral) (leb k kind.Keyword) (eqb k kind.Number) (eqb k kind.StringLiteral)
  where
    go : (a b c e f g h i j l m : Bool)
        → deeper (cond a (Opens d) (cond b (Closes d) (cond c Marks (cond e (Simple symbol) (cond f (Simple character) (cond g Drops
        (cond h Passes (cond i (Simple boolean) (cond j (Simple symbol) (cond l (Simple number) (cond m (Simple string) Dots))))))))))) n
        ≡ cond a (suc n) (cond b (one_less n) n)
    go true b c e f g h i j l m = refl
    go false true c e f g h i j l m = refl
    go false false true e f g h i j l m = refl
    go false false false true f g h i j l m = refl
    go false false false false true g h i j l m = refl
    go false false false false false true h i j l m = refl
    go false false false false false false true i j l m = refl
    go false false false false false false false true j l m = refl
    go false false false false false false false false true l m = refl
    go false false false false false false false false false true m = refl
    go false false false false false false false false false false true = refl
    go false false false false false false false false false false false = refl

classed : (k d n : ℕ) → ours (class_of k d) ≡ true → deeper (class_of k d) n ≡ after k n
unfolding class_of
classed k d n = go (leb k kind.Dot) (has_detail k d) (ltb kind.first_error k) (leb k (kind.first_error + last_error))
  where
    go : (a b c e : Bool) → ours (cond a (cond b (sort_of k d) Alien) (cond c (cond e Fails Alien) Alien)) ≡ true
        → deeper (cond a (cond b (sort_of k d) Alien) (cond c (cond e Fails Alien) Alien)) n ≡ after k n
    go true true c e h = sorted k d n
    go true false c e h = impossible cc
    go false b true true h = impossible cc
    go false b true false h = impossible cc
    go false b false e h = impossible cc

-- the first item's place and class, and the items after it
abbrev place_in : List Item → ℕ
place_in [] = 0
place_in (item p c ∷ xs) = p

abbrev class_in : List Item → Class
class_in [] = Alien
class_in (item p c ∷ xs) = c

abbrev rest_in : List Item → List Item
rest_in [] = []
rest_in (item p c ∷ xs) = xs

abbrev some : List Item → ℕ
some [] = 0
some (x ∷ xs) = 1

module _ (s : List ℕ) where
  next : (p n : ℕ) (c : Class) → c ≡ class_at s p → ours c ≡ true → n ≡ depth_of s p → deeper c n ≡ depth_of s (p + 1)
  unfolding depth_of
  next p n c e o h =
      let q : p + 1 ≡ suc p = omega arith in
      ap (λ (k : Class). deeper k n) e
      ∙ classed (get_or s (p * record_words) 0) (get_or s (p * record_words + 1) 0) n (sym (ap ours e) ∙ o)
      ∙ ap (λ (m : ℕ). after (get_or s (p * record_words) 0) m) h
      ∙ ap (depth_of s) (sym q)

  at_place : {n i m : ℕ} {xs : List Item} → At n xs i m → (c p : ℕ) → xs ≡ items_from c p s → n ≡ depth_of s p → m ≡ depth_of s i
  unfolding items_from
  at_place here zero p e h = absurd (omega (arith, ap some e))
  at_place here (suc c) p e h = h ∙ ap (depth_of s) (sym (ap place_in e))
  at_place (later o a) zero p e h = absurd (omega (arith, ap some e))
  at_place (later {n} {c = k} o a) (suc c) p e h = at_place a c (p + 1) (ap rest_in e) (next p n k (ap class_in e) o h)

  pub placed : (i m : ℕ) → At 0 (items_of s) i m → m ≡ depth_of s i
  unfolding depth_of
  placed i m a = at_place a (count_of s - 0) 0 refl refl
