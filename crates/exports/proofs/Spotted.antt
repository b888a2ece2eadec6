-- What the quick path writes at a spot is what is told there by value: the words that it leaves are as the spot's words have them.
use Prim.Native.Nat.{ℕ}
use mathlib.Core.Path.{◌≡◌, sym, ap, ◌∙◌, subst}
use mathlib.Core.List.{List, [], ◌∷◌}
use lib.ListN.{length, drop, set}
use native.Mathlib.Nat.{add-zero}
use Rattle.laws.specs.Lent.{written}
use Rattle.chars.specs.Encode.{lay}
use Rattle.pieces.specs.declared.Got.{Got}
use Rattle.pieces.specs.Calls.{text_after}
use Rattle.pieces_calls.specs.Answers.{what_of}
use Rattle.pieces_lent.specs.declared.Words.{Words}
use Rattle.pieces_lent.specs.declared.Told.{Told}
use Rattle.pieces_lent.specs.Stood.{Stood}
use Rattle.pieces_lent.specs.Calls.{Said, lent, said, piece_for}
use Rattle.pieces_spots.specs.declared.PieceSpot.{PieceSpot}
use Rattle.pieces_quick.specs.Words.{Ready, stood}
use Rattle.pieces_quick.specs.Gives.{later, Awaits}
use Rattle.exports.specs.Piece.{listed, words_in, state_words, Memory, left, gives, memory, what_number, what_place, record_after}
use Rattle.exports.specs.Spotted.{placed, Tells}
use Rattle.exports.proofs.Left.{left_is, kept}
use Rattle.exports.proofs.Held.{over}

-- a state's words, one by one
pub all_words : (l : List ℕ) → length l ≡ state_words → l ≡ listed (words_in l)
all_words l h = sym (kept l h) ∙ over (words_in l) l h

module _ (l : List ℕ) (h : length l ≡ state_words) (s : PieceSpot) (d : ℕ) where
  abbrev stores : List ℕ → List ℕ
  stores x = set (set (set (set (set (set (set x 3 s.stage) 4 s.start) 5 s.which) 6 s.detail) 9 s.at) 17 s.len) 18 d

  -- seven stores put the spot in place
  pub spot_stored : stores l ≡ written (listed (placed (words_in l) s d)) l
  spot_stored = ap stores (all_words l h) ∙ sym (over (placed (words_in l) s d) l h)

-- of words that are ready the others are those of the spot too
placed-stood : (w : Words) (count : ℕ) → Ready w count → (s : PieceSpot) (d : ℕ) → placed w s d ≡ stood w s d
placed-stood w count R s d = rw (R.ended, R.one, R.two, R.count, R.need, R.low, R.high, R.code)

module _ (s : PieceSpot) (d : ℕ) (g : Got) (words after i put values told : List ℕ) (n : ℕ) where
  pub tells_so : after ≡ written (listed (placed (words_in words) s d)) words
      → ((text : List ℕ) → (put ≡ record_after (what_of g text) i) × (told ≡ lay (what_place (what_of g text) ∷ s.i ∷ []) values) × (n ≡ what_number (what_of g text)))
      → Tells s d g words after i put values told n
  tells_so e f w count R is buf text old =
      let t = f text in
      left_is t.2 (e ∙ ap (λ (x : Words). written (listed x) words) (ap (λ (v : Words). placed v s d) (sym is) ∙ placed-stood w count R s d)) t.0 t.1

-- what is told is what a call says
module _ (m : Memory) (s : Said) where
  pub told_by_lem : (t : Told) {n : ℕ} {buf words text i v : List ℕ} → said t buf text ≡ s → text ≡ text_after s.what m.text
      → left n (memory buf words (text_after (what_of t.got text) m.text) i v) ≡ gives (memory buf m.words m.text m.item m.values) (said t buf text)
      → left n (memory buf words text i v) ≡ gives m s
  told_by_lem t {n = n} {buf = buf} {words = words} {i = i} {v = v} e f k =
      let same = f ∙ ap (λ (x : Said). text_after x.what m.text) (sym e) in
      ap (λ (x : List ℕ). left n (memory buf words x i v)) same ∙ k ∙ ap (gives m) e

-- from the spot that the words have the plain call says the answer
module _ (m : Memory) (w : Words) (count : ℕ) (R : Ready w count) (is : w ≡ words_in m.words) (s : PieceSpot) (piece now then after : List ℕ)
    (e : after ≡ written (listed (placed (words_in m.words) s w.depth)) m.words) (A : Awaits w piece m.buf now m.text then s) where
  abbrev says : Words → List ℕ → Said
  says v text = later s.i (piece_for (lent v now) (drop s.i piece) (length text))

  pub goes_on : gives (memory now after then m.item m.values) (says (words_in after) then) ≡ gives m (piece_for (lent w m.buf) piece (length m.text))
  goes_on =
      ap (λ (l : List ℕ). gives (memory now l then m.item m.values) (says (words_in l) then)) e
      ∙ ap (λ (v : Words). gives (memory now m.words then m.item m.values) (says v then)) (ap (λ (v : Words). placed v s w.depth) (sym is) ∙ placed-stood w count R s w.depth)
      ∙ ap (λ (l : List ℕ). gives (memory now m.words l m.item m.values) (says (stood w s w.depth) l)) A.same
      ∙ ap (gives m) A.on

  -- on the words of a state that reads on
  pub reads_on : Stood (words_in after) now then
  reads_on =
      let placed-so : words_in after ≡ stood w s w.depth =
      ap words_in e ∙ ap (λ (v : Words). placed v s w.depth) (sym is) ∙ placed-stood w count R s w.depth in
      subst (λ (v : Words). Stood v now then) (sym placed-so) (subst (λ (l : List ℕ). Stood (stood w s w.depth) now l) (sym A.same) A.reads)

-- no byte taken before
pub later_none : (s : Said) → later 0 s ≡ s
later_none s = ap (λ (n : ℕ). record { taken = n; what = s.what; state = s.state }) (add-zero s.taken)
