-- The states that the lent calls produced, and a caller that reads a text piece by piece over a lent state, as crate `pieces` has them of a
-- state by value.
use Rattle.std.specs.Prelude.{ℕ, zero, suc, ◌+◌, ◌*◌, ◌≡◌, Bool, List, [], ◌∷◌, length, drop}
use Rattle.pieces.specs.Drive.{heed, unless_taken, too_few}
use Rattle.pieces.specs.Expected.{Expected, longest}
use Rattle.pieces_lent.specs.declared.LentState.{LentState}
use Rattle.pieces_lent.specs.Calls.{Said, piece_for, end_for, open_for}

-- opened in a buffer of 4,096 bytes, whatever they were; then whatever bytes and text memory were lent
pub data Made : LentState → Type 0 where
  opened : (mode : ℕ) (skip : Bool) (buf : List ℕ) → length buf ≡ longest → Made (open_for mode skip buf).state
  pieced : {s : LentState} → Made s → (bs : List ℕ) (room : ℕ) → Made (piece_for s bs room).state
  ended : {s : LentState} → Made s → (room : ℕ) → Made (end_for s room).state

-- at most so many calls with one piece; `next` is what follows the piece
unfoldable pub piece_calls_for : ℕ → ℕ → LentState → List ℕ → (LentState → Expected) → Expected
piece_calls_for room zero s bs next = too_few
piece_calls_for room (suc calls) s bs next =
    let r : Said = piece_for s bs room in
    heed r.what (unless_taken (drop r.taken bs) (next r.state) (λ left. piece_calls_for room calls r.state left next))

-- at most so many end calls
unfoldable pub end_calls_for : ℕ → ℕ → LentState → Expected
end_calls_for room zero s = too_few
end_calls_for room (suc calls) s = let r : Said = end_for s room in heed r.what (end_calls_for room calls r.state)

-- so many calls as crate `pieces` says are enough
unfoldable pub hand_over_for : ℕ → LentState → List (List ℕ) → Expected
hand_over_for room s [] = end_calls_for room 4 s
hand_over_for room s (p ∷ ps) = piece_calls_for room (2 * length p + 2) s p (λ t. hand_over_for room t ps)

unfoldable pub drive_for : ℕ → Bool → List ℕ → ℕ → List (List ℕ) → Expected
drive_for mode skip buf room pieces = hand_over_for room (open_for mode skip buf).state pieces
