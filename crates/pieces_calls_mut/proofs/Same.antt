-- The named form and the quick one do the same, on a state that the calls produced: the named form is lent the state as it is, the quick one the
-- same state as numbers.
use Prim.Native.Nat.{ℕ}
use mathlib.Core.Path.{◌≡◌, sym, ap, ◌∙◌}
use mathlib.Core.List.{List}
use lib.ListN.{length}
use Rattle.pieces.specs.declared.State.{State}
use Rattle.pieces.specs.Calls.{Reply, piece_of, end_of, text_after}
use Rattle.pieces.specs.Produced.{Produced}
use Rattle.pieces_lent.specs.declared.LentState.{LentState}
use Rattle.pieces_lent.specs.declared.Taken.{Taken}
use Rattle.pieces_lent.specs.Calls.{Said, lend, worded, said_of, piece_for, end_for}
use Rattle.pieces_lent.proofs.Same.{same_piece, same_end}
use Rattle.pieces_calls_mut.specs.Kept.{kept}

-- what one call permits: its answer, the state and the text memory after it
abbrev Keeps : Reply → List ℕ → Taken → State → List ℕ → Type 0
Keeps r old t s text = (kept t s text ≡ r) × (text ≡ text_after r.what old)

abbrev KeepsNumbers : Said → List ℕ → Taken → LentState → List ℕ → Type 0
KeepsNumbers r old t s text = (said_of t s text ≡ r) × (text ≡ text_after r.what old)

-- the bytes taken and what is given are the same, the states are the same, one of them as numbers, and so are the text memories
abbrev Alike : Taken → State → List ℕ → Taken → LentState → List ℕ → Type 0
Alike t s text t' s' text' = (worded (kept t s text) ≡ said_of t' s' text') × (text ≡ text')

alike : (r : Reply) (q : Said) (old : List ℕ) (t t' : Taken) (s : State) (s' : LentState) (text text' : List ℕ) → q ≡ worded r → Keeps r old t s text
    → KeepsNumbers q old t' s' text'
    → Alike t s text t' s' text'
alike r q old t t' s s' text text' e a b =
    (ap worded a.0 ∙ sym (b.0 ∙ e), a.1 ∙ sym (b.1 ∙ ap (λ (u : Said). text_after u.what old) e))

module _ {h : State} (p : Produced h) (old : List ℕ) (t t' : Taken) (s : State) (s' : LentState) (text text' : List ℕ) where
  -- `piece_mut` here, and that of `pieces_lent::lending`
  pub same_piece_mut : (bytes : List ℕ) → Keeps (piece_of h bytes (length old)) old t s text → KeepsNumbers (piece_for (lend h) bytes (length old)) old t' s' text'
      → Alike t s text t' s' text'
  same_piece_mut bytes =
      alike (piece_of h bytes (length old)) (piece_for (lend h) bytes (length old)) old t t' s s' text text' (same_piece p bytes (length old))

  -- and `end_mut`
  pub same_end_mut : Keeps (end_of h (length old)) old t s text → KeepsNumbers (end_for (lend h) (length old)) old t' s' text' → Alike t s text t' s' text'
  same_end_mut = alike (end_of h (length old)) (end_for (lend h) (length old)) old t t' s s' text text' (same_end p (length old))
