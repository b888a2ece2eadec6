-- Which words stand for which marks. docs/STATE.md is this page for whoever keeps a state.
use Rattle.std.specs.Prelude.{ℕ, ◌^◌, ◌<◌, Bool, true, false, ◌&&◌, List, [], ◌∷◌, get_or, eqb, leb, ltb, if◌then◌else◌, None, Option, Some}
use Rattle.items.specs.declared.Quotes.{Quotes}
use Rattle.items.specs.declared.Quotes.TheVariants.{Double, Lines}
use Rattle.items.specs.declared.Outcome.{Outcome}
use Rattle.items.specs.declared.Outcome.TheVariants.{Token, Str, HereStr, Word, Run, Lined, Keyword, Character, Error, ErrorAt}
use Rattle.items.specs.declared.Phase.{Phase}
use Rattle.items.specs.declared.Phase.TheVariants as ph
use Rattle.pieces.specs.declared.Stage.{Stage}
use Rattle.pieces.specs.declared.Stage.TheVariants.{Opening, Pound, FirstLine, Idle, Busy, Waiting, Stopped}
use Rattle.pieces.specs.declared.Marks.{Marks}
use Rattle.pieces_lent.specs.declared.Words.{Words}
use Rattle.pieces_lent.specs.declared.StageRow.{StageRow}

-- ---- from words to marks

abbrev pub quotes_of : ℕ → Quotes
quotes_of n = if eqb n 0 then Double else Lines

-- the stages by their number, from 0 on, with what the other words say
abbrev pub stages : StageRow → List Stage
stages r =
    let start : ℕ = r.start in
    let which : ℕ = r.which in
    let quotes : Quotes = quotes_of r.which in
    let detail : ℕ = r.detail in
    let one : ℕ = r.one in
    let two : ℕ = r.two in
    Opening
    ∷ Pound
    ∷ FirstLine
    ∷ Idle
    ∷ Waiting start None
    ∷ Waiting start (Some detail)
    ∷ Stopped which start
    ∷ Busy start ph.InLine
    ∷ Busy start ph.AfterComma
    ∷ Busy start ph.AfterHash
    ∷ Busy start ph.AfterAngle
    ∷ Busy start ph.HereDelim
    ∷ Busy start ph.HereStart
    ∷ Busy start ph.HereBody
    ∷ Busy start ph.InWord
    ∷ Busy start ph.WordEscape
    ∷ Busy start ph.InRun
    ∷ Busy start ph.InHash
    ∷ Busy start ph.HashEscape
    ∷ Busy start ph.HashTick
    ∷ Busy start ph.HashComma
    ∷ Busy start (ph.Nest one)
    ∷ Busy start (ph.NestBar one)
    ∷ Busy start (ph.NestSharp one)
    ∷ Busy start (ph.Quoted quotes)
    ∷ Busy start (ph.Closed quotes)
    ∷ Busy start (ph.TrimBefore quotes)
    ∷ Busy start (ph.TrimAfter quotes)
    ∷ Busy start (ph.Escape quotes one)
    ∷ Busy start (ph.Brace quotes one)
    ∷ Busy start (ph.Hex quotes detail one two)
    ∷ Busy start (ph.Done (Token which detail))
    ∷ Busy start (ph.Done Str)
    ∷ Busy start (ph.Done HereStr)
    ∷ Busy start (ph.Done Word)
    ∷ Busy start (ph.Done Run)
    ∷ Busy start (ph.Done Lined)
    ∷ Busy start (ph.Done Keyword)
    ∷ Busy start (ph.Done Character)
    ∷ Busy start (ph.Done (Error which detail))
    ∷ Busy start (ph.Done (ErrorAt which detail one two))
    ∷ []

-- the first number of an item, and of an item that is whole
abbrev pub first_phase : ℕ
first_phase = 7

abbrev pub first_done : ℕ
first_done = 31

-- how many stages have a number
abbrev pub stage_count : ℕ
stage_count = 41

unfoldable pub stage_of : StageRow → Stage
stage_of r = get_or (stages r) r.stage Opening

abbrev pub row_of : Words → StageRow
row_of w = record { stage = w.stage; start = w.start; which = w.which; detail = w.detail; one = w.one; two = w.two }

-- the marks that words stand for
unfoldable pub standing : Words → Marks
standing w =
    record {
      mode = w.mode;
      skip = eqb w.skip 1;
      ended = eqb w.ended 1;
      stage = stage_of (row_of w);
      at = w.at;
      part = record { count = w.count; state = record { need = w.need; low = w.low; high = w.high; code = w.code } };
      from = w.from;
      to = w.to;
      len = w.len;
      depth = w.depth;
    }

-- ---- from marks to words

abbrev pub bit : Bool → ℕ
bit true = 1
bit false = 0

abbrev pub quotes_code : Quotes → ℕ
quotes_code Double = 0
quotes_code Lines = 1

abbrev pub row : ℕ → ℕ → ℕ → ℕ → ℕ → ℕ → StageRow
row stage start which detail one two = record { stage = stage; start = start; which = which; detail = detail; one = one; two = two }

-- an item that starts at st and is whole
abbrev pub outcome_row : ℕ → Outcome → StageRow
outcome_row st (Token k d) = row 31 st k d 0 0
outcome_row st Str = row 32 st 0 0 0 0
outcome_row st HereStr = row 33 st 0 0 0 0
outcome_row st Word = row 34 st 0 0 0 0
outcome_row st Run = row 35 st 0 0 0 0
outcome_row st Lined = row 36 st 0 0 0 0
outcome_row st Keyword = row 37 st 0 0 0 0
outcome_row st Character = row 38 st 0 0 0 0
outcome_row st (Error n d) = row 39 st n d 0 0
outcome_row st (ErrorAt n d a b) = row 40 st n d a b

-- an item that starts at st
abbrev pub phase_row : ℕ → Phase → StageRow
phase_row st ph.InLine = row 7 st 0 0 0 0
phase_row st ph.AfterComma = row 8 st 0 0 0 0
phase_row st ph.AfterHash = row 9 st 0 0 0 0
phase_row st ph.AfterAngle = row 10 st 0 0 0 0
phase_row st ph.HereDelim = row 11 st 0 0 0 0
phase_row st ph.HereStart = row 12 st 0 0 0 0
phase_row st ph.HereBody = row 13 st 0 0 0 0
phase_row st ph.InWord = row 14 st 0 0 0 0
phase_row st ph.WordEscape = row 15 st 0 0 0 0
phase_row st ph.InRun = row 16 st 0 0 0 0
phase_row st ph.InHash = row 17 st 0 0 0 0
phase_row st ph.HashEscape = row 18 st 0 0 0 0
phase_row st ph.HashTick = row 19 st 0 0 0 0
phase_row st ph.HashComma = row 20 st 0 0 0 0
phase_row st (ph.Nest d) = row 21 st 0 0 d 0
phase_row st (ph.NestBar d) = row 22 st 0 0 d 0
phase_row st (ph.NestSharp d) = row 23 st 0 0 d 0
phase_row st (ph.Quoted k) = row 24 st (quotes_code k) 0 0 0
phase_row st (ph.Closed k) = row 25 st (quotes_code k) 0 0 0
phase_row st (ph.TrimBefore k) = row 26 st (quotes_code k) 0 0 0
phase_row st (ph.TrimAfter k) = row 27 st (quotes_code k) 0 0 0
phase_row st (ph.Escape k from) = row 28 st (quotes_code k) 0 from 0
phase_row st (ph.Brace k from) = row 29 st (quotes_code k) 0 from 0
phase_row st (ph.Hex k closer from digits) = row 30 st (quotes_code k) closer from digits
phase_row st (ph.Done o) = outcome_row st o

abbrev pub beyond_row : ℕ → Option ℕ → StageRow
beyond_row st None = row 4 st 0 0 0 0
beyond_row st (Some c) = row 5 st 0 c 0 0

abbrev pub stage_row : Stage → StageRow
stage_row Opening = row 0 0 0 0 0 0
stage_row Pound = row 1 0 0 0 0 0
stage_row FirstLine = row 2 0 0 0 0 0
stage_row Idle = row 3 0 0 0 0 0
stage_row (Busy st p) = phase_row st p
stage_row (Waiting st b) = beyond_row st b
stage_row (Stopped n p) = row 6 p n 0 0 0

abbrev pub with_row : Marks → StageRow → Words
with_row m r =
    record {
      mode = m.mode;
      skip = bit m.skip;
      ended = bit m.ended;
      stage = r.stage;
      start = r.start;
      which = r.which;
      detail = r.detail;
      one = r.one;
      two = r.two;
      at = m.at;
      count = m.part.count;
      need = m.part.state.need;
      low = m.part.state.low;
      high = m.part.state.high;
      code = m.part.state.code;
      from = m.from;
      to = m.to;
      len = m.len;
      depth = m.depth;
    }

-- the words that stand for marks
unfoldable pub coded : Marks → Words
coded m = with_row m (stage_row m.stage)

-- ---- which words are a code

abbrev pub is_byte : ℕ → Bool
is_byte n = ltb n (2 ^ 8)

abbrev pub is_narrow : ℕ → Bool
is_narrow n = ltb n (2 ^ 32)

-- the numbers that are narrower than a word
unfoldable pub narrow : Words → Bool
narrow w =
    is_narrow w.mode && is_narrow w.which && is_narrow w.detail && is_byte w.need && is_byte w.low && is_byte w.high && is_narrow w.code
    && is_narrow w.depth

-- the same, as what the code asks of a row and of words before it reads them
pub record Narrow (r : StageRow) : Type 0 where
  pub which : r.which < 2 ^ 32
  pub detail : r.detail < 2 ^ 32

pub record Narrowed (w : Words) : Type 0 where
  pub mode : w.mode < 2 ^ 32
  pub row : Narrow (row_of w)
  pub need : w.need < 2 ^ 8
  pub low : w.low < 2 ^ 8
  pub high : w.high < 2 ^ 8
  pub code : w.code < 2 ^ 32
  pub depth : w.depth < 2 ^ 32

unfoldable pub is_same_row : StageRow → StageRow → Bool
is_same_row a b =
    eqb a.stage b.stage && eqb a.start b.start && eqb a.which b.which && eqb a.detail b.detail && eqb a.one b.one
    && eqb a.two b.two

-- a known stage whose unused words are 0: they are the words that its stage has
abbrev pub is_row : StageRow → Bool
is_row r = ltb r.stage stage_count && is_same_row r (stage_row (stage_of r))

unfoldable pub is_code : Words → Bool
is_code w = narrow w && leb w.skip 1 && leb w.ended 1 && is_row (row_of w)

-- what decoding gives
abbrev pub seen : Words → Option Marks
seen w = if is_code w then Some (standing w) else None
