-- What the quick path writes at the end of the text is what is told there by value.
use Prim.Native.Nat.{ℕ}
use mathlib.Core.Path.{◌≡◌, sym, ap, ◌∙◌}
use mathlib.Core.List.{List, [], ◌∷◌}
use lib.ListN.{length, set}
use Rattle.laws.specs.Lent.{written}
use Rattle.chars.specs.Encode.{lay}
use Rattle.pieces.specs.declared.Got.{Got}
use Rattle.pieces_calls.specs.Answers.{what_of}
use Rattle.pieces_lent.specs.declared.Words.{Words}
use Rattle.pieces_lent.specs.Calls.{lent, end_for}
use Rattle.pieces_last.specs.Ends.{with_end, Closing, last_words}
use Rattle.exports.specs.Piece.{listed, words_in, state_words, Memory, Left, gives, memory, what_number, what_place, record_after}
use Rattle.exports.specs.Ended.{end_placed, TellsEnd}
use Rattle.exports.proofs.Left.{left_is}
use Rattle.exports.proofs.Held.{over}
use Rattle.exports.proofs.Spotted.{all_words}

module _ (l : List ℕ) (h : length l ≡ state_words) where
  -- one store says that the end was declared
  pub end_stored : set l 2 1 ≡ written (listed (with_end (words_in l) 1)) l
  end_stored = ap (λ (x : List ℕ). set x 2 1) (all_words l h) ∙ sym (over (with_end (words_in l) 1) l h)

  abbrev stores : ℕ → List ℕ → List ℕ
  stores d x = set (set (set (set (set (set (set x 2 1) 3 3) 4 0) 5 0) 6 0) 17 0) 18 d

  -- seven stores put the reader past the last item
  pub last_stored : (d : ℕ) → stores d l ≡ written (listed (end_placed (words_in l) d)) l
  last_stored d = ap (stores d) (all_words l h) ∙ sym (over (end_placed (words_in l) d) l h)

module _ (v : Words) (g : Got) (words after i put values told : List ℕ) (n : ℕ) where
  pub ends_so : after ≡ written (listed v) words
      → ((text : List ℕ) → (put ≡ record_after (what_of g text) i) × (told ≡ lay (what_place (what_of g text) ∷ 0 ∷ []) values) × (n ≡ what_number (what_of g text)))
      → TellsEnd v g words after i put values told n
  ends_so e f buf text old = let t = f text in left_is t.2 e t.0 t.1

-- of words that are known the others are 0
module _ (w : Words) (C : Closing w) (words : List ℕ) (is : w ≡ words_in words) where
  pub placed_last : (d : ℕ) → end_placed (words_in words) d ≡ last_words w d
  placed_last d =
      let R = C.ready in
      ap (λ (v : Words). end_placed v d) (sym is) ∙ rw (R.one, R.two, R.count, R.need, R.low, R.high, R.code)

-- the plain call on the same memory
pub ends_on : (m : Memory) (w : Words) (then : List ℕ) {l : Left} → w ≡ words_in m.words → then ≡ m.text
    → l ≡ gives (memory m.buf m.words then m.item m.values) (end_for (lent (words_in m.words) m.buf) (length then))
    → l ≡ gives m (end_for (lent w m.buf) (length m.text))
ends_on m w then is same e =
    e ∙ ap (λ (x : List ℕ). gives (memory m.buf m.words x m.item m.values) (end_for (lent (words_in m.words) m.buf) (length x))) same
    ∙ ap (λ (v : Words). gives m (end_for (lent v m.buf) (length m.text))) (sym is)
