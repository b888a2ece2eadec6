-- Any calls, one after the other: pieces and ends in whatever order, each with a text memory of whatever length, served or refused. What they
-- took and gave, added up, and the state that they left.
use Rattle.std.specs.Prelude.{ℕ, ◌<◌, ◌≡◌, Bool, true, false, List, [], ◌∷◌, ◌++◌, take, leb, if◌then◌else◌}
use Rattle.refusal.specs.Refusals as refusal
use Rattle.pieces.specs.declared.State.{State}
use Rattle.pieces.specs.Bounds.{Stops}
use Rattle.pieces.specs.Calls.{Reply, piece_of, end_of, open_of}
use Rattle.pieces.specs.Expected.{longest}
use Rattle.pieces.specs.Given.{Given}
use Rattle.pieces.specs.Produced.{given_by}

-- a call, with the length of the text memory that is lent to it
pub data Call : Type 0 where
  piece : List ℕ → ℕ → Call
  end : ℕ → Call

abbrev pub memory : Call → ℕ
memory (piece bs room) = room
memory (end room) = room

abbrev pub reply_to : State → Call → Reply
reply_to s (piece bs room) = piece_of s bs room
reply_to s (end room) = end_of s room

-- what some calls add up to: the bytes that they took, the items that they gave, whether the end was declared, and the state
pub record Sum : Type 0 where
  pub taken : List ℕ
  pub items : List Given
  pub ended : Bool
  pub state : State

-- one call more; an end call without memory enough declares nothing
abbrev pub with : Sum → Call → Sum
with h (piece bs room) =
    let r : Reply = piece_of h.state bs room in
    record { taken = h.taken ++ take r.taken bs; items = h.items ++ given_by r.what; ended = h.ended; state = r.state }
with h (end room) =
    let r : Reply = end_of h.state room in
    record {
      taken = h.taken;
      items = h.items ++ given_by r.what;
      ended = if leb longest room then true else h.ended;
      state = r.state;
    }

unfoldable pub after : Sum → List Call → Sum
after h [] = h
after h (c ∷ calls) = after (with h c) calls

abbrev pub opened : ℕ → Bool → Sum
opened mode skip = record { taken = []; items = []; ended = false; state = (open_of mode skip).state }

-- what the calls add up to, the opening call before them
abbrev pub sum_of : ℕ → Bool → List Call → Sum
sum_of mode skip calls = after (opened mode skip) calls

-- these bytes may still come: none after the declared end
abbrev pub MayFollow : Sum → List ℕ → Type 0
MayFollow h behind = h.ended ≡ true → behind ≡ []

-- one list is a beginning of another
abbrev pub Begins : List Given → List Given → Type 0
Begins gs all = (later : List Given) × (gs ++ later ≡ all)

-- Why a call was refused. 24 and 26 leave everything as it was, and there is no 27
pub data Refusal (h : Sum) (c : Call) (n : ℕ) : Type 0 where
  short : memory c < longest → n ≡ refusal.little_text → with h c ≡ h → Refusal h c n
  late : h.ended ≡ true → n ≡ refusal.after_end → with h c ≡ h → Refusal h c n
  stops : Stops n → Refusal h c n
