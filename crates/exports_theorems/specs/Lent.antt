-- A text in the midst of being read by calls on a lent state, as specs/Produced of crate `pieces` has it of a state by value: the bytes that were
-- taken so far, the items that were given, and the state.
use Rattle.std.specs.Prelude.{ℕ, ◌≤◌, ◌≡◌, Bool, true, false, List, [], ◌++◌, length, take}
use Rattle.pieces.specs.Due.{Answer, answer}
use Rattle.pieces.specs.Expected.{longest}
use Rattle.pieces.specs.Given.{Given}
use Rattle.pieces.specs.Produced.{given_by}
use Rattle.pieces_lent.specs.declared.LentState.{LentState}
use Rattle.pieces_lent.specs.Calls.{Said, open_for, piece_for, end_for}

-- by any calls with pieces, whatever bytes and text memory were lent to them
pub data Reading (mode : ℕ) (skip : Bool) : List ℕ → List Given → LentState → Type 0 where
  begins : (buf : List ℕ) → length buf ≡ longest → Reading mode skip [] [] (open_for mode skip buf).state
  reads : {taken : List ℕ} {gs : List Given} {s : LentState} → Reading mode skip taken gs s → (bs : List ℕ) (room : ℕ) → longest ≤ room
      → Reading mode skip (taken ++ take (piece_for s bs room).taken bs) (gs ++ given_by (piece_for s bs room).what) (piece_for s bs room).state

-- by any calls with pieces, and then by any end calls; e says whether there was one
pub data Closing (mode : ℕ) (skip : Bool) (taken : List ℕ) : Bool → List Given → LentState → Type 0 where
  read : {gs : List Given} {s : LentState} → Reading mode skip taken gs s → Closing mode skip taken false gs s
  closes : {e : Bool} {gs : List Given} {s : LentState} → Closing mode skip taken e gs s → (room : ℕ) → longest ≤ room
      → Closing mode skip taken true (gs ++ given_by (end_for s room).what) (end_for s room).state

-- what a call answers, beside the state
abbrev pub answered : Said → Answer
answered s = answer s.taken s.what
