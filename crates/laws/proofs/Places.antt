-- The rest of a text from a place on, and a part of it cut there.
use mathlib.Core.Path.{◌≡◌, sym}
use mathlib.Core.Bool.{true, false}
use mathlib.Core.List.{List, [], ◌∷◌}
use Prim.Native.Nat.{ℕ, zero, suc, ◌+◌, ◌≤◌, ◌<◌}
use native.Mathlib.Nat.{zero-add, suc-add, min-le_left}
use native.Mathlib.Numerals.{add-one}
use native.Mathlib.Omega.{arith}
use lib.ListN.{length, get_or, take, drop, drop_of_length-le, length-drop, length-take}
use lib.Seq.{drop-cons, drop-drop, take-nil}
use lib.Dec.{ltb}
use borrow.Author.Tests.{lt-ltb, le-ltb}

module _ (t : List ℕ) (i : ℕ) where
  -- from a place past the end on there is nothing
  pub past : length t ≤ i → drop i t ≡ []
  past h = drop_of_length-le t h

  -- from a place in the text on there is its element and the rest
  pub here : i < length t → drop i t ≡ get_or t i 0 ∷ drop (i + 1) t
  here h = rw add-one (drop-cons t i 0 h)

-- a cut past a place is a cut of what stands from the place on
pub drop-take : (p j : ℕ) (t : List ℕ) → drop p (take (p + j) t) ≡ take j (drop p t)
drop-take zero j t = simp zero-add
drop-take (suc p) j [] = simp suc-add (sym (take-nil j))
drop-take (suc p) j (x ∷ t) = simp suc-add (drop-take p j t)

pub take_short : (n : ℕ) (t : List ℕ) → length (take n t) ≤ n
take_short n t = rw (length-take n t) (min-le_left n (length t))

-- the part from p on, cut after j elements, at the place k of the text
module _ (t : List ℕ) (p j k : ℕ) (e : k ≡ p + j) where
  pub cut_before : drop p (take k t) ≡ take j (drop p t)
  cut_before = rw e (drop-take p j t)

  pub cut_at : drop k t ≡ drop j (drop p t)
  cut_at = rw e (sym (drop-drop j p t))

  pub cut_after : drop (k + 1) t ≡ drop (j + 1) (drop p t)
  cut_after = let q : k + 1 ≡ p + (j + 1) = omega arith in rw q (sym (drop-drop (j + 1) p t))

  pub cut_in : k < length t → ltb j (length (drop p t)) ≡ true
  cut_in h = lt-ltb j (length (drop p t)) (rw length-drop (omega arith))

  pub cut_out : length t ≤ k → ltb j (length (drop p t)) ≡ false
  cut_out h = le-ltb j (length (drop p t)) (rw length-drop (omega arith))
