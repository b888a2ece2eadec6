-- The field bounds of a state: a state outside them is refused with 27. docs/STATE.md lists them. They are what the calls need to read
-- within the buffer and to give words of 32 bits; no state that the opening call and later calls produced is outside them.
use Rattle.std.specs.Prelude.{ℕ, ◌+◌, ◌-◌, ◌*◌, ◌^◌, ◌≡◌, Bool, true, false, ◌&&◌, ◌⊎◌, eqb, leb, ltb, if◌then◌else◌, None, Option, Some}
use Rattle.refusal.specs.Refusals as refusal
use Rattle.chars.specs.Encode.{width, is_scalar}
use Rattle.items.specs.Kinds as kind
use Rattle.items.specs.declared.Outcome.{Outcome}
use Rattle.items.specs.declared.Outcome.TheVariants.{Token, Str, HereStr, Word, Run, Lined, Keyword, Character, Error, ErrorAt}
use Rattle.items.specs.declared.Phase.{Phase}
use Rattle.items.specs.declared.Phase.TheVariants as ph
use Rattle.items.specs.Whole.{limit, is_mode}
use Rattle.pieces.specs.declared.Stage.{Stage}
use Rattle.pieces.specs.declared.Stage.TheVariants.{Opening, Pound, FirstLine, Idle, Busy, Waiting, Stopped}
use Rattle.pieces.specs.declared.Part.{Part}
use Rattle.pieces.specs.declared.Marks.{Marks}
use Rattle.pieces.specs.declared.State.{State}
use Rattle.pieces.specs.Expected.{longest}

-- a place of a text
abbrev pub is_place : ℕ → Bool
is_place p = leb p limit

-- A character begun has as many bits so far as its count of bytes so far and still to come allow: so it never gets more bytes than
-- were taken. With none begun no byte is awaited
abbrev pub part_bounds : Part → Bool
part_bounds p =
    let count : ℕ = p.count in
    let need : ℕ = p.state.need in
    if eqb count 0
    then eqb need 0
    else leb 1 need && leb (count + need) 4 && ltb p.state.code (2 ^ (1 + 6 * count - (count + need)))

-- an outcome that an item in the phase `Done` may have
abbrev pub done_bounds : Outcome → Bool
done_bounds (Token k d) = true
done_bounds (Error n d) = leb n kind.last_error
done_bounds (ErrorAt n d a b) = leb n kind.last_error && is_place a && is_place b
done_bounds Str = false
done_bounds HereStr = false
done_bounds Word = false
done_bounds Run = false
done_bounds Lined = false
done_bounds Keyword = false
done_bounds Character = false

-- the phase of an item of which n bytes are held
abbrev pub phase_bounds : Phase → ℕ → Bool
phase_bounds ph.InLine n = true
phase_bounds ph.AfterComma n = true
phase_bounds ph.AfterHash n = true
phase_bounds ph.AfterAngle n = true
phase_bounds ph.HereDelim n = true
phase_bounds ph.HereStart n = true
phase_bounds ph.HereBody n = true
phase_bounds ph.InWord n = true
phase_bounds ph.WordEscape n = true
phase_bounds ph.InRun n = true
phase_bounds ph.InHash n = true
phase_bounds ph.HashEscape n = true
phase_bounds ph.HashTick n = true
phase_bounds ph.HashComma n = true
phase_bounds (ph.Nest d) n = leb d n
phase_bounds (ph.NestBar d) n = leb d n
phase_bounds (ph.NestSharp d) n = leb d n
phase_bounds (ph.Quoted k) n = true
phase_bounds (ph.Closed k) n = leb 2 n
phase_bounds (ph.TrimBefore k) n = true
phase_bounds (ph.TrimAfter k) n = true
phase_bounds (ph.Escape k from) n = is_place from
phase_bounds (ph.Brace k from) n = is_place from
phase_bounds (ph.Hex k closer from digits) n = is_place from && leb digits n
phase_bounds (ph.Done o) n = done_bounds o

abbrev pub beyond_bounds : Option ℕ → ℕ → Bool
beyond_bounds None at = true
beyond_bounds (Some c) at = is_scalar c && is_place (at + width c)

-- an item that starts at st: its bytes, at least so many, lie right before the place
abbrev pub held_bounds : ℕ → Marks → ℕ → Bool
held_bounds st m least = eqb (st + m.len) m.at && leb least m.len

-- "20, 21 and 23 are stops"
abbrev pub Stops : ℕ → Type 0
Stops n = (n ≡ refusal.over_long) ⊎ ((n ≡ refusal.not_utf8) ⊎ (n ≡ refusal.long_item))

abbrev pub stop_bounds : ℕ → ℕ → Bool
stop_bounds n p = (if eqb n refusal.over_long then true else if eqb n refusal.not_utf8 then true else eqb n refusal.long_item) && is_place p

abbrev pub stage_bounds : Stage → Marks → Bool
stage_bounds Opening m = eqb m.at 0
stage_bounds Pound m = eqb m.len 1 && eqb m.at 1
stage_bounds FirstLine m = true
stage_bounds Idle m = true
stage_bounds (Busy st p) m = held_bounds st m 1 && phase_bounds p m.len
stage_bounds (Waiting st b) m = held_bounds st m 2 && eqb m.part.count 0 && beyond_bounds b m.at
stage_bounds (Stopped n p) m = stop_bounds n p

-- the mode, the place with the character begun, the item, the last range, and the depth: no more brackets are open than bytes lie before
-- the item
abbrev pub number_bounds : Marks → Bool
number_bounds m =
    is_mode m.mode && is_place (m.at + m.part.count) && leb m.len longest && is_place m.from && is_place m.to
    && leb (m.depth + m.len) m.at

unfoldable pub is_in_bounds : State → Bool
is_in_bounds s = number_bounds s.marks && part_bounds s.marks.part && stage_bounds s.marks.stage s.marks
