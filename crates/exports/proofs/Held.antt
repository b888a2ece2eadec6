-- Calls one after the other are the calls of `pieces_lent` one after the other: each is made on the state that the one before left. So what `pieces_lent`
-- says of all calls together holds here too.
use Prim.Native.Nat.{ℕ, ◌≤◌}
use mathlib.Core.Path.{◌≡◌, sym, ap, ◌∙◌}
use mathlib.Core.Bool.{Bool, true}
use mathlib.Core.List.{List, append-nil}
use lib.ListN.{length, drop_of_length-le, length-replicate}
use lib.Dec.{eqb}
use native.Mathlib.Omega.{arith}
use borrow.Author.Tests.{eqb-true}
use Rattle.laws.specs.Lent.{written}
use Rattle.laws.proofs.Choice.{if_all, if_yes, and_true}
use Rattle.items.specs.Whole.{is_mode}
use Rattle.pieces.specs.Expected.{longest}
use Rattle.pieces.specs.Calls.{Reply, open_of}
use Rattle.pieces_lent.specs.declared.Words.{Words}
use Rattle.pieces_lent.specs.declared.LentState.{LentState}
use Rattle.pieces_lent.specs.Calls.{Said, lent, open_for}
use Rattle.exports.specs.Piece.{listed, words_in, state_words, is_a_state, Opened, opens, open_left, Memory, memory, Left, gives, is_room, called}
use Rattle.exports.specs.Held.{Holds}

-- the words of a state, written over as many, are all that is there
pub over : (w : Words) (old : List ℕ) → length old ≡ state_words → written (listed w) old ≡ listed w
over w old h =
    let all : length old ≤ state_words = omega (arith, h) in
    rw (drop_of_length-le old all) (append-nil (listed w))

-- opening
module _ (mode : ℕ) (skip : Bool) where
  open_full : length (open_of mode skip).state.buf ≡ longest
  unfolding open_of
  open_full = if_all (λ (r : Reply). length r.state.buf ≡ longest) (is_mode mode) (length-replicate {A = ℕ} longest 0) (length-replicate {A = ℕ} longest 0)

  module _ (buf words : List ℕ) (e : is_a_state (length buf) (length words) ≡ true) where
    bytes : eqb (length buf) longest ≡ true
    bytes = (and_true (eqb (length buf) longest) (eqb (length words) state_words) e).0

    count : length words ≡ state_words
    count = eqb-true (length words) state_words (and_true (eqb (length buf) longest) (eqb (length words) state_words) e).1

    full : length (open_for mode skip buf).state.buf ≡ longest
    unfolding open_for
    full = rw bytes open_full

    written_so : open_left mode skip buf words ≡ opens (open_for mode skip buf) words
    unfolding open_left
    written_so = rw e

    -- the memory holds the state that was opened
    pub open_held : (text i values : List ℕ)
        → Holds (memory (open_left mode skip buf words).buf (open_left mode skip buf words).words text i values) (open_for mode skip buf).state
    open_held text i values =
        record {
          bytes = ap (λ (o : Opened). o.buf) written_so;
          words = ap (λ (o : Opened). o.words) written_so ∙ over (open_for mode skip buf).state.words words count;
          full = full;
        }

-- a piece, or the end
module _ (m : Memory) (s : LentState) (call : LentState → Said) (h : Holds m s) (room : is_room (length m.item) (length m.values) ≡ true) where
  is_state : is_a_state (length m.buf) (length m.words) ≡ true
  is_state = rw (h.bytes, h.words, h.full)

  held : s ≡ lent (words_in m.words) m.buf
  held = sym (ap (λ (l : List ℕ). lent (words_in l) m.buf) h.words ∙ ap (lent s.words) h.bytes)

  -- the call is made on the state that is held
  pub call_held : called m call ≡ gives m (call s)
  unfolding called
  call_held = sym (if_yes _ _ _ room (if_yes _ _ _ is_state (ap (λ (t : LentState). gives m (call t)) held)))

  -- and the memory holds the state after it
  pub next_held : length (call s).state.buf ≡ longest → Holds (called m call).memory (call s).state
  next_held full =
      record {
        bytes = ap (λ (l : Left). l.memory.buf) call_held;
        words = ap (λ (l : Left). l.memory.words) call_held ∙ over (call s).state.words m.words (ap length h.words);
        full = full;
      }
