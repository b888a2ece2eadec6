-- When some words are a position's, by the tests of the code, and what is then known of them.
use Prim.Native.Nat.{ℕ, ◌≤◌}
use Rattle.std.specs.Int.{from_bool}
use mathlib.Core.Path.{◌≡◌, refl, sym, ap, ◌∙◌}
use mathlib.Core.Bool.{Bool, true, false, ◌&&◌}
use mathlib.Core.List.{List, [], ◌∷◌}
use lib.ListN.{length, get_or}
use lib.Dec.{eqb, leb}
use borrow.Author.Tests.{eq-eqb, ne_eqb, eqb-true, leb-true}
use Rattle.laws.specs.Lent.{written}
use Rattle.laws.proofs.Choice.{and_true, impossible}
use Rattle.items.specs.Whole.{limit}
use Rattle.lexer.specs.declared.Position.{Position}
use Rattle.reader_exports.specs.Words.{reader_words, flag, listed, are_narrow, are_flags, is_position}

module _ (l : List ℕ) where
  abbrev narrow : Bool
  narrow = are_narrow (get_or l 1 0) (get_or l 2 0) (get_or l 6 0)

  abbrev flags : Bool
  flags = are_flags (get_or l 3 0) (get_or l 4 0) (get_or l 5 0)

  -- the first two tests
  abbrev first_two : Bool
  first_two = eqb (length l) reader_words && narrow

  pub passed : {v r : Bool} → length l ≡ reader_words → v ≡ r → r ≡ narrow → v ≡ first_two
  passed h e f = rw (eq-eqb (length l) reader_words h) (e ∙ f)

  pub failed : {v : Bool} → (length l ≡ reader_words → ⊥) → v ≡ eqb (length l) reader_words → v ≡ first_two
  failed h e = let f = ne_eqb (length l) reader_words h in rw f (e ∙ f)

  -- and then the third
  pub by_flags : {v f : Bool} → v ≡ first_two → v ≡ true → f ≡ flags → f ≡ is_position l
  unfolding is_position
  by_flags e q g =
      let x = and_true (eqb (length l) reader_words) narrow (sym e ∙ q) in
      rw x.0 (g ∙ ap (λ (b : Bool). b && flags) (sym x.1))

  pub no_position : {v : Bool} → v ≡ first_two → v ≡ false → v ≡ is_position l
  unfolding is_position
  no_position e q = q ∙ sym (go (eqb (length l) reader_words) narrow (sym e ∙ q))
    where
      go : (a b : Bool) → (a && b) ≡ false → (a && (b && flags)) ≡ false
      go true true z = impossible cc
      go true false z = refl
      go false b z = refl

  module _ (e : is_position l ≡ true) where
    tests : (eqb (length l) reader_words ≡ true) × ((narrow && flags) ≡ true)
    unfolding is_position
    tests = and_true (eqb (length l) reader_words) (narrow && flags) e

    narrow_tests : (leb (get_or l 1 0) limit ≡ true) × ((leb (get_or l 2 0) limit && leb (get_or l 6 0) limit) ≡ true)
    narrow_tests = and_true (leb (get_or l 1 0) limit) (leb (get_or l 2 0) limit && leb (get_or l 6 0) limit) (and_true narrow flags tests.1).0

    pub position_length : length l ≡ reader_words
    position_length = eqb-true (length l) reader_words tests.0

    pub position_from : get_or l 1 0 ≤ limit
    position_from = leb-true (get_or l 1 0) limit narrow_tests.0

    pub position_to : get_or l 2 0 ≤ limit
    position_to = leb-true (get_or l 2 0) limit (and_true (leb (get_or l 2 0) limit) (leb (get_or l 6 0) limit) narrow_tests.1).0

    pub position_depth : get_or l 6 0 ≤ limit
    position_depth = leb-true (get_or l 6 0) limit (and_true (leb (get_or l 2 0) limit) (leb (get_or l 6 0) limit) narrow_tests.1).1

-- yes or no as a word
pub flag_is : (b : Bool) → from_bool b ≡ flag b
flag_is true = refl
flag_is false = refl

-- three of the words are made by a call each
pub all_written : (p : Position) (old : List ℕ) {second report skip : ℕ} {now : List ℕ} → second ≡ flag p.spot.second → report ≡ flag p.spot.report
    → skip ≡ flag p.spot.skip → now ≡ written (p.spot.at ∷ p.spot.last.from ∷ p.spot.last.to ∷ second ∷ report ∷ skip ∷ p.depth ∷ []) old
    → now ≡ written (listed p) old
all_written p old e f g h = h ∙ rw (e, f, g)
