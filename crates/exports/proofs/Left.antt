-- What the piece calls leave, put together from what each step leaves.
use Prim.Native.Nat.{ℕ, zero, suc, ◌+◌, ◌≤◌}
use mathlib.Core.Path.{◌≡◌, refl, sym, ap, ◌∙◌}
use mathlib.Core.Bool.{Bool, true, false}
use mathlib.Core.List.{List, [], ◌∷◌, ◌++◌}
use native.Mathlib.Nat.{add-zero}
use native.Mathlib.Omega.{arith}
use lib.ListN.{length, get_or, drop}
use lib.Seq.{drop-cons}
use lib.Dec.{eqb, leb}
use borrow.Author.Tests.{eqb-true, leb-true}
use Rattle.refusal.specs.Refusals as refusal
use Rattle.laws.specs.Lent.{written}
use Rattle.laws.proofs.Choice.{if_yes, if_no, and_true}
use Rattle.chars.specs.Encode.{lay}
use Rattle.items.specs.Items.{record_words}
use Rattle.pieces.specs.Calls.{text_after}
use Rattle.pieces_calls.specs.Answers.{what_of}
use Rattle.pieces_lent.specs.declared.Words.{Words}
use Rattle.pieces_lent.specs.declared.LentState.{LentState}
use Rattle.pieces_lent.specs.declared.Told.{Told}
use Rattle.pieces_lent.specs.Calls.{Said, lent, said, open_for}
use Rattle.exports.specs.Piece.{listed, words_in, state_words, is_a_state, opened, start_number, opens, open_left, Memory, Left, left, gives, is_room, called, memory}

-- what the tests say of the slices
pub room_record : (i v : ℕ) → is_room i v ≡ true → record_words ≤ i
room_record i v h = leb-true record_words i (and_true (leb record_words i) (leb 2 v) h).0

pub state_words_lem : (b w : ℕ) → is_a_state b w ≡ true → w ≡ state_words
state_words_lem b w h = eqb-true w state_words (and_true (eqb b 4096) (eqb w state_words) h).1

module _ {n m : ℕ} {buf words text i values words' i' values' : List ℕ} where
  pub left_is : n ≡ m → words ≡ words' → i ≡ i' → values ≡ values' → left n (memory buf words text i values) ≡ left m (memory buf words' text i' values')
  left_is e f g h = rw (e, f, g, h)

-- the first value is told by another call
pub values_are : (a : ℕ) (old : List ℕ) {now : List ℕ} {p q : ℕ} → now ≡ lay (p ∷ a ∷ []) old → p ≡ q → now ≡ lay (q ∷ a ∷ []) old
values_are a old e f = e ∙ ap (λ (x : ℕ). lay (x ∷ a ∷ []) old) f

-- what a call wrote is what the next one reads
pub read_back : (w : Words) (old : List ℕ) → words_in (written (listed w) old) ≡ w
read_back w old = refl

-- the n words from place i on, one by one
abbrev loads : List ℕ → ℕ → ℕ → List ℕ
loads l i zero = []
loads l i (suc n) = get_or l i 0 ∷ loads l (suc i) n

loads_back : (l : List ℕ) (i n : ℕ) → i + n ≤ length l → loads l i n ++ drop (i + n) l ≡ drop i l
loads_back l i zero h = ap (λ (k : ℕ). drop k l) (add-zero i)
loads_back l i (suc n) h =
    let e : i + suc n ≡ suc i + n = omega arith in
    ap (λ (k : ℕ). get_or l i 0 ∷ (loads l (suc i) n ++ drop k l)) e
    ∙ ap (λ (x : List ℕ). get_or l i 0 ∷ x) (loads_back l (suc i) n (omega arith))
    ∙ sym (drop-cons l i 0 (omega arith))

-- words that are read and written back are as they were: what a refused call leaves
pub kept : (l : List ℕ) → length l ≡ state_words → written (listed (words_in l)) l ≡ l
kept l h = loads_back l 0 state_words (omega arith)

-- opening
module _ (mode : ℕ) (skip : Bool) (buf words : List ℕ) where
  pub not_opened : is_a_state (length buf) (length words) ≡ false → opened refusal.out_of_bounds buf words ≡ open_left mode skip buf words
  unfolding open_left
  not_opened h = rw h

  pub opened_so : (t : Told) {n : ℕ} {now after : List ℕ} → is_a_state (length buf) (length words) ≡ true → said t now [] ≡ open_for mode skip buf
      → n ≡ start_number (what_of t.got []) → after ≡ written (listed t.words) words → opened n now after ≡ open_left mode skip buf words
  unfolding open_left
  opened_so t h e f g = rw h (rw (f, g) (ap (λ (s : Said). opens s words) e))

-- a piece, or the end: 22, 27, then the call
module _ (m : Memory) (call : LentState → Said) where
  abbrev room : Bool
  room = is_room (length m.item) (length m.values)

  abbrev state : Bool
  state = is_a_state (length m.buf) (length m.words)

  pub too_few : {v : List ℕ} → room ≡ false → v ≡ lay (1 ∷ 0 ∷ []) m.values → left refusal.too_few (memory m.buf m.words m.text m.item v) ≡ called m call
  unfolding called
  too_few h e = if_no room _ _ h (ap (λ (x : List ℕ). left refusal.too_few (memory m.buf m.words m.text m.item x)) e)

  pub no_state : {v : List ℕ} → room ≡ true → state ≡ false → v ≡ lay (0 ∷ 0 ∷ []) m.values → left refusal.out_of_bounds (memory m.buf m.words m.text m.item v) ≡ called m call
  unfolding called
  no_state h g e = if_yes room _ _ h (if_no state _ _ g (ap (λ (x : List ℕ). left refusal.out_of_bounds (memory m.buf m.words m.text m.item x)) e))

  -- `w` is what was read of the words
  abbrev answer : Words → Said
  answer w = call (lent w m.buf)

  -- a call that is served
  pub served : {l : Left} {w : Words} → room ≡ true → state ≡ true → w ≡ words_in m.words → l ≡ gives m (answer w) → l ≡ called m call
  unfolding called
  served h g q e = if_yes room _ _ h (if_yes state _ _ g (e ∙ ap (λ (x : Words). gives m (answer x)) q))

  pub told_on : (t : Told) {w : Words} {n : ℕ} {buf words text i v : List ℕ} → room ≡ true → state ≡ true → w ≡ words_in m.words
      → said t buf text ≡ answer w → text ≡ text_after (answer w).what m.text
      → left n (memory buf words (text_after (what_of t.got text) m.text) i v) ≡ gives (memory buf m.words m.text m.item m.values) (said t buf text)
      → left n (memory buf words text i v) ≡ called m call
  unfolding called
  told_on t {n = n} {buf = buf} {words = words} {i = i} {v = v} h g q e f k =
      let same = f ∙ ap (λ (s : Said). text_after s.what m.text) (sym e) in
      if_yes room _ _ h
      (if_yes state _ _ g
      (ap (λ (x : List ℕ). left n (memory buf words x i v)) same ∙ k ∙ ap (gives m) (e ∙ ap answer q)))
