-- Any calls on a lent state, one after the other, as crate `pieces_any_calls` has them of a state by value: what they took and gave, added up, and the
-- state that they left.
use Rattle.std.specs.Prelude.{ℕ, ◌<◌, ◌≡◌, Bool, true, false, List, [], ◌∷◌, ◌++◌, take, leb, if◌then◌else◌}
use Rattle.refusal.specs.Refusals as refusal
use Rattle.pieces.specs.Expected.{longest}
use Rattle.pieces.specs.Given.{Given}
use Rattle.pieces.specs.Produced.{given_by}
use Rattle.pieces_lent.specs.declared.LentState.{LentState}
use Rattle.pieces_lent.specs.Calls.{Said, piece_for, end_for, open_for}
use Rattle.pieces.specs.Bounds.{Stops}
use Rattle.pieces_any_calls.specs.After.{Call, piece, end, memory}

abbrev pub said_to : LentState → Call → Said
said_to s (piece bs room) = piece_for s bs room
said_to s (end room) = end_for s room

pub record Sum : Type 0 where
  pub taken : List ℕ
  pub items : List Given
  pub ended : Bool
  pub state : LentState

-- one call more
abbrev pub with : Sum → Call → Sum
with h (piece bs room) =
    let r : Said = piece_for h.state bs room in
    record { taken = h.taken ++ take r.taken bs; items = h.items ++ given_by r.what; ended = h.ended; state = r.state }
with h (end room) =
    let r : Said = end_for h.state room in
    record {
      taken = h.taken;
      items = h.items ++ given_by r.what;
      ended = if leb longest room then true else h.ended;
      state = r.state;
    }

unfoldable pub after : Sum → List Call → Sum
after h [] = h
after h (c ∷ calls) = after (with h c) calls

-- what the calls add up to, from the opening call in a buffer on
abbrev pub sum_of : ℕ → Bool → List ℕ → List Call → Sum
sum_of mode skip buf calls = after (record { taken = []; items = []; ended = false; state = (open_for mode skip buf).state }) calls

-- Why a call was refused. 24 and 26 leave everything as it was, each byte and word, and there is no 27
pub data Refusal (h : Sum) (c : Call) (n : ℕ) : Type 0 where
  short : memory c < longest → n ≡ refusal.little_text → with h c ≡ h → Refusal h c n
  late : h.ended ≡ true → n ≡ refusal.after_end → with h c ≡ h → Refusal h c n
  stops : Stops n → Refusal h c n
