-- The error range of a position that the calls made lies in the source, so that its words are in their bounds: no such position is 27.
use Rattle.std.proofs.Common.{None, Option, Some}
use Rattle.chars.specs.Utf8.{chars}
use Rattle.items.specs.Kinds as kind
use Rattle.items.specs.Readers.{Read, read_item}
use Rattle.items.specs.Items.{Item, most_open, depth_after}
use Rattle.items.specs.Whole.{limit}
use Rattle.items.proofs.Every.{every_any}
use Rattle.items.proofs.Fine.{Ranged}
use Rattle.items.proofs.Order.{after_ranged}
use Rattle.laws.proofs.Choice.{by_bool, if_all, if_is, impossible}
use Rattle.meaning.specs.Places.{place_in}
use Rattle.lexer.specs.Reading.{Turn, gives, ends, turn_of, turn, start_from, next_from, next_at, size_of}
use Rattle.lexer.specs.declared.Spot.{Spot}
use Rattle.lexer.specs.declared.FirstChar.{FirstChar}
use Rattle.lexer.specs.declared.Position.{Position}
use Rattle.lexer.proofs.CharacterAt.{char_inside_lem}
use Rattle.lexer.proofs.Turns.{Started, started, none_started}
use Rattle.lexer.proofs.Extents.{Any}
use Rattle.lexer.proofs.Cases.{past, halfway, by_turn}
use Rattle.reader_exports.specs.Words.{flag, listed, is_position, position_in}
use Prim.Native.Nat.{ℕ, zero, suc, ◌≤◌}
use mathlib.Core.Path.{◌≡◌, refl, sym, ap, ◌∙◌, subst}
use mathlib.Core.Bool.{Bool, true, false, ◌&&◌}
use mathlib.Core.List.{List, ◌∷◌}
use lib.ListN.{length, drop}
use lib.Dec.{eqb, leb, ltb}
use native.Mathlib.Omega.{arith}
use borrow.Author.Tests.{le-leb, ltb-true}

-- ---- the range stays in the source

abbrev pub Within : List ℕ → Spot → Type 0
Within s p = Ranged (length s) p.last.from p.last.to

module _ (s : List ℕ) (p : Spot) (c a n : ℕ) (S : Started s p.at (chars (drop p.at s)) c a n) (h : Within s p) where
  abbrev it : Read
  it = read_item p.report a c (chars (drop n s))

  after : Within s (past p a it.what it.item)
  after =
      after_ranged Any (λ d l. tt) p.report (length s) (place_in p.last) a c (chars (drop n s)) h (char_inside_lem s a c (chars (drop n s)) S.first)
      (every_any Any (λ d. tt) (c ∷ chars (drop n s)))

  given_within : (i : Item) (q : Spot) → turn_of p a it.what it.item ≡ gives i q → Within s q
  given_within i q e = by_turn p a it.what it.item
      (λ x f g. same x (past p a it.what it.item) (sym g ∙ e) after)
      (λ x y f b g. same x (halfway p a it.what it.item) (sym g ∙ e) h)
      (λ x y f b g. same y (past p a it.what it.item) (sym g ∙ e) after)
    where
      same : (x : Item) (t : Spot) → gives x t ≡ gives i q → Within s t → Within s q
      same x t z w = let u : t ≡ q = cc in subst (Within s) u w

module _ (s : List ℕ) where
  turn_within : (p q : Spot) (i : Item) → Within s p → turn s p ≡ gives i q → Within s q
  unfolding turn
  turn_within p q i h e = go (start_from p.at (chars (drop p.at s))) refl
    where
      go : (x : Option FirstChar) → start_from p.at (chars (drop p.at s)) ≡ x → Within s q
      go (Some x) f =
          let S : Started s p.at (chars (drop p.at s)) x.code x.at x.past = started s (chars (drop p.at s)) p.at refl x.code x.at x.past f in
          given_within s p x.code x.at x.past S h i q (sym (S.turn p) ∙ e)
      go None f =
          let z : gives i q ≡ ends = sym e ∙ (none_started (chars (drop p.at s)) p.at f).0 p in
          impossible cc

  module _ (n : ℕ) (p t : Spot) (x : Item) (e : turn s p ≡ gives x t) where
    skips : (p.skip && eqb x.kind kind.Comment) ≡ true → next_from (suc n) s p ≡ next_from n s t
    unfolding next_from
    skips b = rw (e, b)

    keeps : (p.skip && eqb x.kind kind.Comment) ≡ false → next_from (suc n) s p ≡ gives x t
    unfolding next_from
    keeps b = rw (e, b)

  none : (n : ℕ) (p : Spot) → turn s p ≡ ends → next_from (suc n) s p ≡ ends
  unfolding next_from
  none n p e = rw e

  from_within : (n : ℕ) (p q : Spot) (i : Item) → Within s p → next_from n s p ≡ gives i q → Within s q
  unfolding next_from
  from_within zero p q i h e = impossible cc
  from_within (suc n) p q i h e = go (λ t w f. from_within n t q i w f) (turn s p) refl
    where
      go : ((t : Spot) → Within s t → next_from n s t ≡ gives i q → Within s q) → (t : Turn) → turn s p ≡ t → Within s q
      go rec ends f = let z : ends ≡ gives i q = sym (none n p f) ∙ e in impossible cc
      go rec (gives x t) f = by_bool (p.skip && eqb x.kind kind.Comment)
          (λ b. rec t (turn_within p t x h f) (sym (skips n p t x f b) ∙ e))
          (λ b. turn_within p q i h (f ∙ (sym (keeps n p t x f b) ∙ e)))

  pub next_within : (p q : Spot) (i : Item) → Within s p → next_at s p ≡ gives i q → Within s q
  unfolding next_at
  next_within p q i h e = from_within (suc (size_of s p)) p q i h e

-- ---- the depth stays in its bounds

pub depth_fits : (k d : ℕ) → d ≤ limit → depth_after k d ≤ limit
depth_fits k d h =
    if_all (λ (x : ℕ). x ≤ limit) (eqb k kind.OpenParen)
    (if_is (λ (x : ℕ). x ≤ limit) (ltb d most_open) (λ b. omega (arith, ltb-true d most_open b)) (λ b. h))
    (if_all (λ (x : ℕ). x ≤ limit) (eqb k kind.CloseParen) (omega arith) h)

-- ---- so its words are a position's, and that one

flag_small : (b : Bool) → leb (flag b) 1 ≡ true
flag_small true = refl
flag_small false = refl

flag_back : (b : Bool) → eqb (flag b) 1 ≡ b
flag_back true = refl
flag_back false = refl

pub fits_is : (p : Position) → p.spot.last.from ≤ limit → p.spot.last.to ≤ limit → p.depth ≤ limit → is_position (listed p) ≡ true
unfolding is_position
fits_is p from to depth =
    rw (
      le-leb p.spot.last.from limit from,
      le-leb p.spot.last.to limit to,
      le-leb p.depth limit depth,
      flag_small p.spot.second,
      flag_small p.spot.report,
      flag_small p.spot.skip,
    )

abbrev with : Position → Bool → Bool → Bool → Position
with p a b c = record { spot = record { at = p.spot.at; last = p.spot.last; second = a; report = b; skip = c }; depth = p.depth }

pub words_back : (p : Position) → position_in (listed p) ≡ p
words_back p =
    ap (λ (b : Bool). with p b (eqb (flag p.spot.report) 1) (eqb (flag p.spot.skip) 1)) (flag_back p.spot.second)
    ∙ ap (λ (b : Bool). with p p.spot.second b (eqb (flag p.spot.skip) 1)) (flag_back p.spot.report)
    ∙ ap (λ (b : Bool). with p p.spot.second p.spot.report b) (flag_back p.spot.skip)
