-- A caller that reads a text piece by piece: it hands each piece over until all of it is taken, then declares the end until it hears
-- "finished"; a refusal ends it sooner. It collects the items that it is given, and the last word.
use Rattle.std.specs.Prelude.{ℕ, zero, suc, ◌+◌, ◌*◌, Bool, List, [], ◌∷◌, ◌++◌, length, drop}
use Rattle.pieces.specs.declared.State.{State}
use Rattle.pieces.specs.Expected.{Expected}
use Rattle.pieces.specs.Expected as word
use Rattle.pieces.specs.Calls.{What, item, more, finished, refused, Reply, piece_of, end_of, open_of}
use Rattle.pieces.specs.Given.{Given}

-- what a call gave, before what the later calls give; "finished" and a refusal are the last word
abbrev pub heed : What → Expected → Expected
heed (item g) later = record { items = g ∷ later.items; last = later.last }
heed more later = later
heed finished later = record { items = []; last = word.finished }
heed (refused n p) later = record { items = []; last = word.refused n p }

-- items that were given earlier, before what the later calls give
abbrev pub prepend : List Given → Expected → Expected
prepend gs later = record { items = gs ++ later.items; last = later.last }

-- what is left of a piece is handed over again; where nothing is left, the piece is done
abbrev pub unless_taken : List ℕ → Expected → (List ℕ → Expected) → Expected
unless_taken [] done again = done
unless_taken (b ∷ left) done again = again (b ∷ left)

-- the calls were too few; no text has this last word
abbrev pub too_few : Expected
too_few = record { items = []; last = word.refused 0 0 }

-- at most so many calls with one piece; `room` is the length of the text memory, `next` what follows the piece
unfoldable pub piece_calls : ℕ → ℕ → State → List ℕ → (State → Expected) → Expected
piece_calls room zero s bs next = too_few
piece_calls room (suc calls) s bs next =
    let r : Reply = piece_of s bs room in
    heed r.what (unless_taken (drop r.taken bs) (next r.state) (λ left. piece_calls room calls r.state left next))

-- at most so many end calls
unfoldable pub end_calls : ℕ → ℕ → State → Expected
end_calls room zero s = too_few
end_calls room (suc calls) s = let r : Reply = end_of s room in heed r.what (end_calls room calls r.state)

-- A byte makes at most one extent ready, which is two items or fewer, and two more calls begin and end a piece. At the end at most three
-- items are still to come, the second of a pair and another pair, and then "finished".
unfoldable pub hand_over : ℕ → State → List (List ℕ) → Expected
hand_over room s [] = end_calls room 4 s
hand_over room s (p ∷ ps) = piece_calls room (2 * length p + 2) s p (λ t. hand_over room t ps)

unfoldable pub drive : ℕ → Bool → ℕ → List (List ℕ) → Expected
drive mode skip room pieces = hand_over room (open_of mode skip).state pieces

-- the text that is cut into these pieces
unfoldable pub joined : List (List ℕ) → List ℕ
joined [] = []
joined (p ∷ ps) = p ++ joined ps
