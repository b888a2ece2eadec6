-- A text memory that holds the mark alone: element by element, and past what a call wrote.
use mathlib.Core.Bool.{Bool}
use Rattle.std.proofs.Common.{◌≡◌, sym, ℕ, zero, suc, ◌+◌, ◌<◌, true, false, ◌&&◌, eqb, List, [], ◌∷◌, length, get_or, drop, replicate, refl, add-one, drop-cons}
use Rattle.laws.proofs.Choice.{and_true}
use Rattle.pieces_cuttings.specs.Inner.{mark, is_unwritten}

-- ---- from a place on

module _ (text : List ℕ) (i : ℕ) (h : i < length text) where
  from_here : is_unwritten (drop i text) ≡ (eqb (get_or text i 0) mark && is_unwritten (drop (i + 1) text))
  unfolding is_unwritten
  from_here = rw (add-one, drop-cons text i 0 h)

  -- one byte more is the mark, or is not
  pub marks_next : (all : Bool) → ((all && eqb (get_or text i 0) mark) && is_unwritten (drop (i + 1) text)) ≡ (all && is_unwritten (drop i text))
  marks_next true = sym from_here
  marks_next false = refl

pub marked_none : is_unwritten [] ≡ true
unfolding is_unwritten
marked_none = refl

-- ---- all of it, and past a place

pub all_marks : (n : ℕ) → is_unwritten (replicate n mark) ≡ true
unfolding is_unwritten
all_marks zero = refl
all_marks (suc n) = all_marks n

pub past_marks : (k : ℕ) (text : List ℕ) → is_unwritten text ≡ true → is_unwritten (drop k text) ≡ true
unfolding is_unwritten
past_marks zero text e = e
past_marks (suc k) [] e = refl
past_marks (suc k) (b ∷ text) e = past_marks k text (and_true (eqb b mark) (is_unwritten text) e).1
