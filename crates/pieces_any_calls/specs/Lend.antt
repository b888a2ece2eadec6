-- The caller of crate `pieces`, specs/Drive, with another text memory at every call: `rooms` are their lengths, one for each call. A call
-- that is refused with 24 is made again with the next memory.
use Rattle.std.specs.Prelude.{ℕ, suc, ◌+◌, ◌*◌, Bool, false, List, [], ◌∷◌, length, drop, eqb, leb, if◌then◌else◌}
use Rattle.refusal.specs.Refusals as refusal
use Rattle.pieces.specs.declared.State.{State}
use Rattle.pieces.specs.Calls.{What, item, more, finished, refused, Reply, piece_of, end_of, open_of}
use Rattle.pieces.specs.Drive.{heed, unless_taken, too_few}
use Rattle.pieces.specs.Expected.{Expected, longest}

-- a refusal with 24
abbrev pub too_short : What → Bool
too_short (item g) = false
too_short more = false
too_short finished = false
too_short (refused n p) = eqb n refusal.little_text

-- the calls with one piece; `next` is what follows it, with the memories that are left
unfoldable pub piece_calls : List ℕ → State → List ℕ → (List ℕ → State → Expected) → Expected
piece_calls [] s bs next = too_few
piece_calls (room ∷ rooms) s bs next =
    let r : Reply = piece_of s bs room in
    if too_short r.what
    then piece_calls rooms r.state bs next
    else heed r.what (unless_taken (drop r.taken bs) (next rooms r.state) (λ left. piece_calls rooms r.state left next))

unfoldable pub end_calls : List ℕ → State → Expected
end_calls [] s = too_few
end_calls (room ∷ rooms) s =
    let r : Reply = end_of s room in
    if too_short r.what then end_calls rooms r.state else heed r.what (end_calls rooms r.state)

unfoldable pub hand_over : List ℕ → State → List (List ℕ) → Expected
hand_over rooms s [] = end_calls rooms s
hand_over rooms s (p ∷ ps) = piece_calls rooms s p (λ later t. hand_over later t ps)

unfoldable pub drive : ℕ → Bool → List ℕ → List (List ℕ) → Expected
drive mode skip rooms pieces = hand_over rooms (open_of mode skip).state pieces

-- how many of the memories are long enough
unfoldable pub wide : List ℕ → ℕ
wide [] = 0
wide (room ∷ rooms) = if leb longest room then suc (wide rooms) else wide rooms

-- so many calls are enough, as specs/Drive says
unfoldable pub calls_for : List (List ℕ) → ℕ
calls_for [] = 4
calls_for (p ∷ ps) = 2 * length p + 2 + calls_for ps
