-- A caller that reads a text piece by piece over slices and numbers alone, as specs/Drive of crate `pieces` has one over a state by value. It
-- asks only for the numbers and the memory that a call leaves.
use Rattle.std.specs.Prelude.{ℕ, zero, suc, ◌+◌, ◌*◌, Bool, List, [], ◌∷◌, length, take, drop, get_or, eqb, if◌then◌else◌}
use Rattle.refusal.specs.Refusals as refusal
use Rattle.items.specs.Items.{record_words}
use Rattle.pieces.specs.Calls.{What, item, more, finished, refused}
use Rattle.pieces.specs.Drive.{heed, unless_taken, too_few}
use Rattle.pieces.specs.Expected.{Expected}
use Rattle.pieces.specs.Given.{Given}
use Rattle.exports.specs.Piece.{Opened, open_left, Memory, memory, Left, piece_left, end_left}

-- which word of a record says where its text ends
abbrev pub past_word : ℕ
past_word = 8

-- the item that the memory holds: its record, and its text, from 0 to where that word says
abbrev pub item_in : Memory → Given
item_in m = record { words = take record_words m.item; text = take (get_or m.item past_word 0) m.text }

-- what a call left: an item, "more", "finished", or a refusal with its place
abbrev pub heard_in : Left → What
heard_in l =
    if eqb l.answer refusal.item
    then item (item_in l.memory)
    else if eqb l.answer refusal.more
    then more
    else if eqb l.answer refusal.finished
    then finished
    else refused l.answer (get_or l.memory.values 0 0)

-- the bytes taken
abbrev pub taken_in : Left → ℕ
taken_in l = get_or l.memory.values 1 0

-- at most so many calls with one piece; `next` is what follows the piece
unfoldable pub piece_calls_in : ℕ → Memory → List ℕ → (Memory → Expected) → Expected
piece_calls_in zero m bs next = too_few
piece_calls_in (suc calls) m bs next =
    let l : Left = piece_left m bs in
    heed (heard_in l) (unless_taken (drop (taken_in l) bs) (next l.memory) (λ left. piece_calls_in calls l.memory left next))

-- at most so many end calls
unfoldable pub end_calls_in : ℕ → Memory → Expected
end_calls_in zero m = too_few
end_calls_in (suc calls) m = let l : Left = end_left m in heed (heard_in l) (end_calls_in calls l.memory)

-- so many calls as crate `pieces` says are enough
unfoldable pub hand_over_in : Memory → List (List ℕ) → Expected
hand_over_in m [] = end_calls_in 4 m
hand_over_in m (p ∷ ps) = piece_calls_in (2 * length p + 2) m p (λ n. hand_over_in n ps)

-- the memory after opening
abbrev pub opened_in : Opened → Memory → Memory
opened_in o m = memory o.buf o.words m.text m.item m.values

unfoldable pub drive_in : ℕ → Bool → Memory → List (List ℕ) → Expected
drive_in mode skip m pieces = hand_over_in (opened_in (open_left mode skip m.buf m.words) m) pieces
