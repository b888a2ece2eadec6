-- What the two calls leave, put together from what each step leaves.
use Prim.Native.Nat.{ℕ, ◌≤◌}
use mathlib.Core.Path.{◌≡◌, sym, ap, ◌∙◌}
use mathlib.Core.Bool.{Bool, true, false}
use mathlib.Core.List.{List}
use lib.ListN.{length}
use lib.Dec.{eqb, leb}
use borrow.Author.Tests.{eq-eqb, ne_eqb, leb-true}
use Rattle.refusal.specs.Refusals as refusal
use Rattle.laws.specs.Lent.{written}
use Rattle.laws.proofs.Choice.{if_yes, if_no, and_true}
use Rattle.items.specs.Items.{record_words}
use Rattle.lexer.specs.Opening.{Opening, opened, refused, open_of}
use Rattle.lexer.specs.Answers.{Reply, item, finished, refuses, replied, next_of}
use Rattle.lexer.specs.declared.Position.{Position}
use Rattle.reader_exports.specs.Words.{reader_words, listed, is_position, position_in}
use Rattle.reader_exports.specs.Reader.{started, told, opens, open_left, Memory, memory, left, gives, given, is_room, next_left}

-- ---- opening

module _ {n : ℕ} {w w' v v' : List ℕ} where
  started_is : w ≡ w' → v ≡ v' → started n w v ≡ started n w' v'
  started_is e f = rw (e, f)

module _ (words values : List ℕ) where
  -- what opening answered, told
  pub open_told : (p : Position) {o : Opening} {w v : List ℕ} → o ≡ opened p → w ≡ written (listed p) words → v ≡ told 0 0 values
      → started 0 w v ≡ opens o words values
  open_told p e f g = started_is f g ∙ ap (λ (x : Opening). opens x words values) (sym e)

  pub refused-told : (n a : ℕ) {o : Opening} {v : List ℕ} → o ≡ refused n a → v ≡ told a 0 values → started n words v ≡ opens o words values
  refused-told n a e g = ap (started n words) g ∙ ap (λ (x : Opening). opens x words values) (sym e)

  module _ (source : List ℕ) (mode : ℕ) (skip : Bool) where
    pub no_words : {v : List ℕ} → (length words ≡ reader_words → ⊥) → v ≡ told 0 0 values → started refusal.out_of_bounds words v ≡ open_left source mode skip words values
    unfolding open_left
    no_words h e = if_no (eqb (length words) reader_words) _ _ (ne_eqb (length words) reader_words h) (ap (started refusal.out_of_bounds words) e)

    pub open_so : {o : Opening} {n : ℕ} {w v : List ℕ} → length words ≡ reader_words → o ≡ open_of source mode skip → started n w v ≡ opens o words values
        → started n w v ≡ open_left source mode skip words values
    unfolding open_left
    open_so h e f = if_yes (eqb (length words) reader_words) _ _ (eq-eqb (length words) reader_words h) (f ∙ ap (λ (x : Opening). opens x words values) e)

-- ---- one item

module _ {n : ℕ} {w w' text i i' v v' : List ℕ} where
  left_is : w ≡ w' → i ≡ i' → v ≡ v' → left n (memory w text i v) ≡ left n (memory w' text i' v')
  left_is e f g = rw (e, f, g)

-- what the reader answered, told; `old` is what the text memory was, which is of no account
module _ (words old i values text : List ℕ) where
  abbrev lent : Memory
  lent = memory words old i values

  pub item-told : (r : List ℕ) (p : Position) {q : Reply} {w k v : List ℕ} → q ≡ item r p → w ≡ written (listed p) words → k ≡ written r i → v ≡ told 0 0 values
      → left refusal.item (memory w text k v) ≡ gives lent q text
  item-told r p e f g h = left_is f g h ∙ ap (λ (x : Reply). gives lent x text) (sym e)

  pub end_told : {q : Reply} {v : List ℕ} → q ≡ finished → v ≡ told 0 0 values → left refusal.finished (memory words text i v) ≡ gives lent q text
  end_told e h = ap (λ (x : List ℕ). left refusal.finished (memory words text i x)) h ∙ ap (λ (x : Reply). gives lent x text) (sym e)

  pub stop_told : (n a b : ℕ) {q : Reply} {v : List ℕ} → q ≡ refuses n a b → v ≡ told a b values → left n (memory words text i v) ≡ gives lent q text
  stop_told n a b e h = ap (λ (x : List ℕ). left n (memory words text i x)) h ∙ ap (λ (x : Reply). gives lent x text) (sym e)

pub room_record : (i v : ℕ) → is_room i v ≡ true → record_words ≤ i
room_record i v h = leb-true record_words i (and_true (leb record_words i) (leb 2 v) h).0

-- 22, 27, then the call
module _ (source : List ℕ) (m : Memory) where
  abbrev room : Bool
  room = is_room (length m.item) (length m.values)

  pub too_few : {v : List ℕ} → room ≡ false → v ≡ told 1 0 m.values → left refusal.too_few (memory m.words m.text m.item v) ≡ next_left source m
  unfolding next_left
  too_few h e = if_no room _ _ h (ap (λ (x : List ℕ). left refusal.too_few (memory m.words m.text m.item x)) e)

  pub no_position : {v : List ℕ} → room ≡ true → is_position m.words ≡ false → v ≡ told 0 0 m.values
      → left refusal.out_of_bounds (memory m.words m.text m.item v) ≡ next_left source m
  unfolding next_left
  no_position h g e = if_yes room _ _ h (if_no (is_position m.words) _ _ g (ap (λ (x : List ℕ). left refusal.out_of_bounds (memory m.words m.text m.item x)) e))

  pub told_on : {q : Reply} {p : Position} {n : ℕ} {w t i v : List ℕ} → room ≡ true → is_position m.words ≡ true → p ≡ position_in m.words
      → replied q t ≡ next_of source p m.text → left n (memory w t i v) ≡ gives m q t → left n (memory w t i v) ≡ next_left source m
  unfolding next_left
  told_on h g e f k =
      if_yes room _ _ h
      (if_yes (is_position m.words) _ _ g
      (k ∙ ap (given m) (f ∙ ap (λ (x : Position). next_of source x m.text) e)))
