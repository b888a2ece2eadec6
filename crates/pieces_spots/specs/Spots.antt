-- A spot: where the reader stands between two characters, and how many bytes of the piece were taken. What it says of the state that the words
-- stand for, and that one spot feeds on as another.
use Rattle.std.specs.Prelude.{ℕ, ◌+◌, ◌/◌, ◌%◌, ◌^◌, ◌≤◌, ◌<◌, ◌≡◌, Bool, true, false, List, [], ◌∷◌, length, get_or, drop, set}
use Rattle.laws.specs.Texts.{span}
use Rattle.steps.specs.Runs.{keeps}
use Rattle.items.specs.Readers.{SoFar, hash_kind}
use Rattle.items.specs.declared.Quotes.{Quotes}
use Rattle.items.specs.declared.Phase.{Phase}
use Rattle.items.specs.declared.Next.TheVariants.{Eat, Stop}
use Rattle.items.specs.declared.Phase.TheVariants.{InWord, InRun, Quoted, Escape}
use Rattle.items.specs.declared.Outcome.{Outcome}
use Rattle.items.specs.declared.HashKind.TheVariants.{Decided}
use Rattle.items.specs.declared.Outcome.TheVariants.{Token, Word, Run}
use Rattle.items.specs.Kinds as kind
use Rattle.items.specs.Meaning.{meaning_of}
use Rattle.meaning.specs.Meant.{means, sized_all}
use Rattle.meaning.specs.declared.Text.TheVariants.{Nowhere}
use Rattle.meaning.specs.declared.Means.{Means}
use Rattle.items_telling.specs.declared.Quick.{Quick}
use Rattle.items_telling.specs.declared.Quick.TheVariants.{Item, Bracket, Other}
use Rattle.chars.specs.Blank.{is_blank}
use Rattle.items.specs.Classes.{first_of, in_hash, stops_hash}
use Rattle.items.specs.Items.{Place, range, range_after}
use Rattle.items.specs.Machine.{on_first, step_of}
use Rattle.items.specs.Whole.{limit}
use Rattle.pieces.specs.declared.Stage.TheVariants.{Busy}
use Rattle.pieces.specs.declared.Marks.{Marks}
use Rattle.pieces.specs.declared.State.{State}
use Rattle.pieces.specs.Expected.{longest}
use Rattle.pieces.specs.Calls.{marks, feed_of}
use Rattle.pieces_giving.specs.Answers.{state_of}
use Rattle.pieces_turns.specs.Inner.{Sound}
use Rattle.pieces_lent.specs.declared.StageRow.{StageRow}
use Rattle.pieces_lent.specs.Coding.{row, stage_of, stage_row}
use Rattle.pieces_spots.specs.declared.PieceSpot.{PieceSpot}

abbrev pub row_at : PieceSpot → StageRow
row_at s = row s.stage s.start s.which s.detail 0 0

-- the marks of a spot, with the mode, the last range and the depth of others
abbrev pub marks_at : Marks → PieceSpot → Marks
marks_at m s = marks m (stage_of (row_at s)) s.at s.len (range m.from m.to)

abbrev pub state_at : Marks → PieceSpot → List ℕ → State
state_at m s buf = state_of (marks_at m s) buf

-- a spot within the piece and within the longest text, whose stage has its row; past the stage between items an item is held
pub record Fits (s : PieceSpot) (buf piece : List ℕ) : Type 0 where
  pub full : length buf ≡ longest
  pub inside : s.i ≤ length piece
  pub far : s.at + length piece ≤ limit + s.i
  pub small : s.len ≤ longest
  pub held : 3 < s.stage → (s.start + s.len ≡ s.at) × (1 ≤ s.len)
  pub rows : stage_row (stage_of (row_at s)) ≡ row_at s
  pub which : s.which < 2 ^ 32
  pub detail : s.detail < 2 ^ 32

-- one spot feeds on as another
pub record Goes (m : Marks) (text piece : List ℕ) (s : PieceSpot) (buf : List ℕ) (r : PieceSpot) (then : List ℕ) : Type 0 where
  pub sound : Sound (marks_at m r) then text
  pub feeds : feed_of (state_at m r then) (drop r.i piece) r.i ≡ feed_of (state_at m s buf) (drop s.i piece) s.i

abbrev pub Onward : PieceSpot → List ℕ → PieceSpot → List ℕ → List ℕ → Type 0
Onward s buf r then piece = (m : Marks) (text : List ℕ) → Sound (marks_at m s) buf text → Goes m text piece s buf r then

-- ---- what a byte begins

-- a byte that is no blank, and the row of the stage after it
pub record Solid (c r : ℕ) : Type 0 where
  pub small : c < 0x80
  pub solid : is_blank c ≡ false
  pub stands : (start : ℕ) → stage_of (row (r % 64) start (r / 64 % 32) (r / 2048) 0 0) ≡ Busy start (on_first (first_of c))
  pub rows : (start : ℕ) → stage_row (Busy start (on_first (first_of c))) ≡ row (r % 64) start (r / 64 % 32) (r / 2048) 0 0

pub record Firsts (c r : ℕ) : Type 0 where
  pub blank : r ≡ 3 → (c < 0x80) × (is_blank c ≡ true)
  pub begins : 3 < r → Solid c r
  pub few : r < 2 ^ 16

-- ---- what an item does with bytes

-- so many of these bytes leave an item in the phase of the stage
pub record Keeps (stage which n : ℕ) (bytes : List ℕ) : Type 0 where
  pub phase : Phase
  pub stands : (start detail : ℕ) → stage_of (row stage start which detail 0 0) ≡ Busy start phase
  pub run : n ≤ span (keeps phase) bytes

-- a byte leads an item, whose bytes so far are `raw`, from the phase of the stage to another
pub record Closes (stage which c r : ℕ) (raw : List ℕ) : Type 0 where
  pub item : 3 < stage
  pub small : c < 0x80
  pub phase : Phase
  pub next : Phase
  pub stands : (start detail : ℕ) → stage_of (row stage start which detail 0 0) ≡ Busy start phase
  pub eats : (report : Bool) (i : SoFar) → i.bytes ≡ raw → step_of report phase i c ≡ Eat next
  pub then : (start : ℕ) → stage_of (row (r % 64) start (r / 64 % 32) (r / 2048) 0 0) ≡ Busy start next
  pub rows : (start : ℕ) → stage_row (Busy start next) ≡ row (r % 64) start (r / 64 % 32) (r / 2048) 0 0
  pub few : r < 2 ^ 16

-- the two bytes of a letter past ASCII: U+00C0 to U+07FF, of which none is a blank
pub record Letter (x y : ℕ) : Type 0 where
  pub first : 0xC3 ≤ x
  pub few : x < 0xE0
  pub next : 0x80 ≤ y
  pub last : y ≤ 0xBF

-- an item of the stage goes on with any such letter
pub record Carries (stage which : ℕ) : Type 0 where
  pub phase : Phase
  pub stands : (start detail : ℕ) → stage_of (row stage start which detail 0 0) ≡ Busy start phase
  pub eats : (c : ℕ) → 0xC0 ≤ c → c < 0x800 → (report : Bool) (i : SoFar) → step_of report phase i c ≡ Eat phase

-- an item of the stage stands in quotes, and a backslash and this byte leave it there
pub record Escapes (stage which c : ℕ) : Type 0 where
  pub quotes : Quotes
  pub small : c < 0x80
  pub stands : (start detail : ℕ) → stage_of (row stage start which detail 0 0) ≡ Busy start (Quoted quotes)
  pub back : (report : Bool) (from : ℕ) (i : SoFar) → step_of report (Escape quotes from) i c ≡ Eat (Quoted quotes)

-- the spot past two bytes that leave an item in its phase, and the buffer with them
abbrev pub past_pair : PieceSpot → PieceSpot
past_pair s = record { stage = s.stage; start = s.start; which = s.which; detail = s.detail; at = s.at + 2; len = s.len + 2; i = s.i + 2 }

abbrev pub with_pair : PieceSpot → List ℕ → List ℕ → List ℕ
with_pair s buf piece = set (set buf s.len (get_or piece s.i 0)) (s.len + 1) (get_or piece (s.i + 1) 0)

-- two such bytes stand at a spot
pub record Paired (s : PieceSpot) (piece : List ℕ) : Type 0 where
  pub inside : s.i + 2 ≤ length piece
  pub room : s.len + 2 ≤ longest
  pub on : (buf : List ℕ) → Fits s buf piece → Onward s buf (past_pair s) (with_pair s buf piece) piece

-- a byte ends a word
abbrev pub StopsWord : ℕ → Type 0
StopsWord c = (report : Bool) (i : SoFar) → step_of report InWord i c ≡ Stop Word

-- and a number run, and a word that begins with a number sign
pub record Stops (c : ℕ) : Type 0 where
  pub word : StopsWord c
  pub sign : in_hash c ≡ stops_hash
  pub run : (report : Bool) (i : SoFar) → step_of report InRun i c ≡ Stop Run

-- an item of the stage that starts at a place ends before a byte, and has one meaning, which is no error
pub record Ended (stage which detail c at : ℕ) (raw : List ℕ) (m : Means) : Type 0 where
  pub phase : Phase
  pub what : Outcome
  pub stands : (start : ℕ) → stage_of (row stage start which detail 0 0) ≡ Busy start phase
  pub stops : (report : Bool) (i : SoFar) → i.bytes ≡ raw → step_of report phase i c ≡ Stop what
  pub quiet : (report : Bool) (last : Place) (i : SoFar) → range_after report last at what i ≡ last
  pub means : (report : Bool) → m ∷ [] ≡ sized_all (meaning_of report what at (at + length raw) raw)
  pub fine : m.kind < kind.first_error

abbrev pub TellsAt : ℕ → ℕ → ℕ → ℕ → ℕ → List ℕ → Quick → Type 0
TellsAt stage which detail c at raw (Item m a e) = Ended stage which detail c at raw m
TellsAt stage which detail c at raw (Bracket m a e) = Unit {0}
TellsAt stage which detail c at raw Other = Unit {0}

-- a word that begins with a number sign is a boolean
abbrev pub TellsSign : List ℕ → Quick → Type 0
TellsSign raw (Item m a e) = (hash_kind raw ≡ Decided (Token kind.BooleanLiteral m.detail)) × (m ≡ means kind.BooleanLiteral m.detail Nowhere)
TellsSign raw (Bracket m a e) = Unit {0}
TellsSign raw Other = Unit {0}
