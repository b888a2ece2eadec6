-- What a reading of a text in pieces comes to, by the calls' definition (crate `pieces`, specs/Calls): the cutting says which bytes each call
-- is handed, and what each call gives is written down.
use Rattle.std.specs.Prelude.{ℕ, zero, suc, ◌+◌, ◌-◌, ◌*◌, ◌/◌, ◌%◌, ◌^◌, Bool, true, false, List, length, nat_le, nat_lt, slice_set, if◌then◌else◌, Option, None, Some, is_some}
use Rattle.items.specs.Items.{record_words}
use Rattle.pieces.specs.declared.State.{State}
use Rattle.pieces.specs.Calls.{What, item, more, finished, refused, Reply, laid_at, piece_of, end_of, open_of}
use Rattle.pieces.specs.Given.{Given}
use Rattle.pieces_cuttings.specs.declared.Cutting.{Cutting}
use Rattle.pieces_cuttings.specs.declared.Ending.{Ending}
use Rattle.pieces_cuttings.specs.declared.Ending.TheVariants.{Finished, Refused}
use Rattle.pieces_cuttings.specs.declared.Reading.{Reading}
use Rattle.pieces_cuttings.specs.declared.ReadingAndState.{ReadingAndState}
use Rattle.pieces_cuttings.specs.Parts.{part_of}

-- how many bytes of text memory each call is lent, more than an item's text may have
abbrev pub room : ℕ
room = 4100

-- more calls than any reading makes
abbrev pub most : ℕ
most = 1000000

-- ---- what is written down

-- what a reading has come to, and the memories with the items' records, how many bytes were taken when each was given, and their texts
pub record Notes : Type 0 where
  pub reading : Reading
  pub records : List ℕ
  pub counts : List ℕ
  pub texts : List ℕ

abbrev pub notes : Reading → List ℕ → List ℕ → List ℕ → Notes
notes r records counts texts = record { reading = r; records = records; counts = counts; texts = texts }

abbrev pub unread : Reading
unread = record { items = 0; bytes = 0; taken = 0; ending = None; kept = true }

-- a memory has no room for what was given
abbrev pub broken : Reading → Reading
broken r = record { items = r.items; bytes = r.bytes; taken = r.taken; ending = Some Finished; kept = false }

abbrev pub breaks : Notes → Notes
breaks b = notes (broken b.reading) b.records b.counts b.texts

-- an item: its ten words, the count and its text stand behind those of the items before. A call changes no more of the text memory than
-- the text that it gives, so `kept` stays
abbrev pub one_more : Reading → ℕ → ℕ → Reading
one_more r n taken =
    record { items = r.items + 1; bytes = r.bytes + n; taken = taken; ending = None; kept = r.kept }

abbrev pub note_item : Notes → Given → ℕ → Notes
note_item b g taken =
    let items = b.reading.items in
    let bytes = b.reading.bytes in
    if nat_le (length b.records / record_words) items then breaks b
    else if nat_le (length b.counts) items then breaks b
    else if nat_lt (length b.texts) (bytes + length g.text) then breaks b
    else
    notes (one_more b.reading (length g.text) taken) (laid_at (items * record_words) g.words b.records) (slice_set b.counts items taken)
    (laid_at bytes g.text b.texts)

-- any other answer
abbrev pub note_other : Reading → Option Ending → ℕ → Reading
note_other r e taken = record { items = r.items; bytes = r.bytes; taken = taken; ending = e; kept = r.kept }

abbrev pub without : Notes → Option Ending → ℕ → Notes
without b e taken = notes (note_other b.reading e taken) b.records b.counts b.texts

abbrev pub note : Notes → What → ℕ → Notes
note b (item g) taken = note_item b g taken
note b more taken = without b None taken
note b finished taken = without b (Some Finished) taken
note b (refused number place) taken = without b (Some (Refused number place)) taken

-- ---- the calls

-- where a reading stands between two calls
pub record Standing : Type 0 where
  pub state : State
  pub notes : Notes

abbrev pub standing : ReadingAndState → List ℕ → List ℕ → List ℕ → Standing
standing s records counts texts = record { state = s.state; notes = notes s.reading records counts texts }

abbrev pub replied : Standing → Reply → Standing
replied s r = record { state = r.state; notes = note s.notes r.what ((s.notes.reading.taken + r.taken) % 2 ^ 64) }

-- a piece call, with the bytes that were not taken yet, up to a place
unfoldable pub piece_noted : List ℕ → ℕ → Standing → Standing
piece_noted source to s = replied s (piece_of s.state (part_of source s.notes.reading.taken to) room)

unfoldable pub end_noted : Standing → Standing
end_noted s = replied s (end_of s.state room)

abbrev pub is_over : Standing → Bool
is_over s = is_some s.notes.reading.ending

abbrev pub taken_by : Standing → ℕ
taken_by s = s.notes.reading.taken

-- the bytes up to a place, until all of them are taken; an empty piece once
unfoldable pub hand_over : List ℕ → ℕ → ℕ → Standing → Standing
hand_over source to zero s = s
hand_over source to (suc calls) s =
    let after = piece_noted source to s in
    if is_over after then after else if nat_le to (taken_by after) then after else hand_over source to calls after

-- where a piece of so many bytes ends, in a text of n
abbrev pub piece_end : ℕ → ℕ → ℕ → ℕ
piece_end n from size = if nat_lt n from then from else if nat_lt (n - from) size then n else from + size

-- how many bytes the piece after one of `size` bytes has
abbrev pub next_size : Cutting → ℕ → ℕ
next_size cut size = if nat_lt size cut.low then cut.low else if nat_lt size cut.high then size + 1 else cut.low

-- the whole text, from a piece of `size` bytes on
unfoldable pub hand_all : List ℕ → Cutting → ℕ → ℕ → Standing → Standing
hand_all source cut zero size s = s
hand_all source cut (suc pieces) size s =
    let after = hand_over source (piece_end (length source) (taken_by s) size) most s in
    let rest = hand_all source cut pieces (next_size cut size) after in
    if is_over s then s else if nat_le (length source) (taken_by s) then s else rest

-- the end, until all items are given
unfoldable pub hand_end : ℕ → Standing → Standing
hand_end zero s = s
hand_end (suc calls) s = let after = hand_end calls (end_noted s) in if is_over s then s else after

-- a text, whole: from the opened state to the end or to a refusal
unfoldable pub read_of : List ℕ → Cutting → ℕ → Bool → List ℕ → List ℕ → List ℕ → Notes
read_of source cut mode skip records counts texts =
    let first : Standing = record { state = (open_of mode skip).state; notes = notes unread records counts texts } in
    (hand_end most (hand_all source cut most cut.first first)).notes
