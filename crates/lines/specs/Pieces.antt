-- The index of a text that comes in pieces. "From pieces, every refusal comes with the declared end, and the memory then holds the starts
-- found before any byte that shows 20 or 21, as many as fit."
use Rattle.std.specs.Prelude.{ℕ, ◌+◌, ◌-◌, List, [], ◌∷◌, ◌++◌, eqb, ltb, length, set, take, drop, if◌then◌else◌}
use Rattle.refusal.specs.Refusals.{over_long, not_utf8, out_of_bounds, lines_no_room}
use Rattle.chars.specs.Utf8.{Sequence, read, broken, short, sequences}
use Rattle.chars.specs.Machine.{step, start, told}
use Rattle.chars.specs.declared.Begun as begun
use Rattle.refusal.specs.Refusals.{limit}
use Rattle.lines.specs.Starts.{newline, Told, Served, Refused}
use Rattle.lines.specs.declared.LineState.{LineState}

-- a state, and what the lent memory holds
pub record Fed : Type 0 where
  pub state : LineState
  pub memory : List ℕ

abbrev pub fed : LineState → List ℕ → Fed
fed t m = record { state = t; memory = m }

-- at the start of a text, nothing shown
abbrev pub fresh : LineState
fresh = record { begun = start; from = 0; at = 0; lines = 0; stop = 0 }

-- The first start is 0. A store past the memory's end is none: as many starts as fit.
abbrev pub open_of : List ℕ → Fed
open_of m = fed fresh (set m 0 0)

-- after a byte of a text that can go on
abbrev pub moved_of : LineState → ℕ → begun.Begun → ℕ → LineState
moved_of t b u f = record { begun = u; from = f; at = t.at + 1; lines = (if eqb b newline then t.lines + 1 else t.lines); stop = 0 }

-- after a byte that showed a refusal, or one after it
abbrev pub stopped_of : LineState → ℕ → ℕ → LineState
stopped_of t at stop = record { begun = t.begun; from = t.from; at = at; lines = t.lines; stop = stop }

-- One byte. The first one too many shows 20, which stands; after 21 bytes are only counted, since 20 goes first at the end.
unfoldable pub step_of : LineState → ℕ → LineState
step_of t b =
    if eqb t.stop over_long then t
    else if eqb t.at limit then stopped_of t limit over_long
    else if eqb t.stop not_utf8 then stopped_of t (t.at + 1) not_utf8
    else told (step t.begun b) (λ u. moved_of t b u t.from) (λ c. moved_of t b start (t.at + 1)) (stopped_of t (t.at + 1) not_utf8)

-- a newline byte more is a start more, noted where it fits
abbrev pub noted : LineState → LineState → List ℕ → List ℕ
noted t next m = if ltb t.lines next.lines then set m next.lines next.at else m

unfoldable pub fed_of : LineState → List ℕ → List ℕ → Fed
fed_of t [] m = fed t m
fed_of t (b ∷ s) m = fed_of (step_of t b) s (noted t (step_of t b) m)

-- A state with more newline bytes than bytes is none that the opening call and later calls produce. It stays as it is; the end says so.
unfoldable pub piece_of : LineState → List ℕ → List ℕ → Fed
piece_of t s m = if ltb t.at t.lines then fed t m else fed_of t s m

-- The declared end, where n is the memory's length: 27, then 20, 21 (a sequence that the end cuts too), 33 with the number needed.
unfoldable pub end_of : LineState → ℕ → Told
end_of t n =
    if ltb t.at t.lines then Refused out_of_bounds 0
    else if eqb t.stop over_long then Refused over_long limit
    else if eqb t.stop not_utf8 then Refused not_utf8 t.from
    else if eqb t.begun.need 0 then
    (if ltb n (t.lines + 1) then Refused lines_no_room (t.lines + 1) else Served (t.lines + 1))
    else Refused not_utf8 t.from

-- ---- pieces one after the other, and what the memory holds at the end

abbrev pub pieces : Fed → List (List ℕ) → Fed
pieces f [] = f
pieces f (p ∷ ps) = pieces (piece_of f.state p f.memory) ps

abbrev pub joined : List (List ℕ) → List ℕ
joined [] = []
joined (p ∷ ps) = p ++ joined ps

-- the place of the first byte after which no valid text can follow, else the end n
unfoldable pub shown : List Sequence → ℕ → ℕ
shown [] n = n
shown (read c f t ∷ l) n = shown l n
shown (broken f t ∷ l) n = t - 1
shown (short f ∷ l) n = n

-- the bytes of a text before any byte that shows 20 or 21
abbrev pub before : List ℕ → List ℕ
before s = take limit (take (shown (sequences 0 0 s) (length s)) s)

-- a list laid into a memory from its start on, as much of it as fits
abbrev pub laid : List ℕ → List ℕ → List ℕ
laid l m = take (length m) l ++ drop (length l) m
