-- The kinds of words: each row of the table has one, and a word of no row is an identifier. None of them is an error, a comment or a bracket.
use Rattle.items.specs.Kinds as kind
use Rattle.items.specs.Meaning.{Row, lookup, words, word_kind}
use Rattle.laws.specs.Texts.{same}
use Rattle.laws.proofs.Choice.{by_bool, and_true}
use Rattle.items_telling.specs.Tells.{Level}
use Prim.Native.Nat.{ℕ, ◌<◌}
use mathlib.Core.Path.{◌≡◌, refl}
use mathlib.Core.Bool.{Bool, true, false, not, ◌&&◌}
use mathlib.Core.List.{List, [], ◌∷◌}
use lib.Dec.{eqb, ltb}
use native.Mathlib.Omega.{arith}
use borrow.Author.Tests.{ltb-true, ne_eqb, not-true}

-- no error, no bracket, and no comment
abbrev plain_kind : ℕ → Bool
plain_kind k = ltb k kind.first_error && (ltb kind.CloseParen k && not (eqb k kind.Comment))

abbrev all_plain : List Row → Bool
all_plain [] = true
all_plain (r ∷ rs) = plain_kind r.number && all_plain rs

row_plain : (raw : List ℕ) (n : ℕ) (rs : List Row) → all_plain rs ≡ true → plain_kind n ≡ true → plain_kind (lookup rs raw n) ≡ true
unfolding lookup
row_plain raw n [] h k = k
row_plain raw n (r ∷ rs) h k = by_bool (same raw r.text)
    (λ b. rw b (and_true (plain_kind r.number) (all_plain rs) h).0)
    (λ b. rw b (row_plain raw n rs (and_true (plain_kind r.number) (all_plain rs) h).1 k))

words_plain : all_plain words ≡ true
unfolding words
words_plain = refl

kind_plain : (raw : List ℕ) → plain_kind (word_kind raw) ≡ true
unfolding word_kind
kind_plain raw = row_plain raw kind.Identifier words words_plain refl

-- the brackets are the first two kinds
level : (k : ℕ) → kind.CloseParen < k → Level k
level k h depth = rw (ne_eqb k kind.OpenParen (λ e. omega arith), ne_eqb k kind.CloseParen (λ e. omega arith))

module _ (raw : List ℕ) where
  rest : (ltb kind.CloseParen (word_kind raw) && not (eqb (word_kind raw) kind.Comment)) ≡ true
  rest = (and_true (ltb (word_kind raw) kind.first_error) _ (kind_plain raw)).1

  pub kind_fine : word_kind raw < kind.first_error
  kind_fine = ltb-true (word_kind raw) kind.first_error (and_true _ _ (kind_plain raw)).0

  pub kind_level : Level (word_kind raw)
  kind_level = level (word_kind raw) (ltb-true kind.CloseParen (word_kind raw) (and_true _ _ rest).0)

  pub kind_kept : eqb (word_kind raw) kind.Comment ≡ false
  kind_kept = not-true (eqb (word_kind raw) kind.Comment) (and_true (ltb kind.CloseParen (word_kind raw)) _ rest).1
