-- The words that are known here, and the words of a spot.
use Rattle.std.specs.Prelude.{ℕ, ◌+◌, ◌^◌, ◌≤◌, ◌<◌, ◌≡◌, true, false, eqb}
use Rattle.items.specs.Whole.{limit}
use Rattle.pieces.specs.declared.Stage.TheVariants.{Idle}
use Rattle.pieces.specs.declared.Marks.{Marks}
use Rattle.pieces.specs.Expected.{longest}
use Rattle.pieces.specs.Bounds.{stage_bounds}
use Rattle.pieces.specs.Calls.{whole}
use Rattle.pieces_turns.specs.Inner.{reads_on}
use Rattle.pieces_lent.specs.declared.Words.{Words}
use Rattle.pieces_lent.specs.Coding.{row, stage_of, stage_row}
use Rattle.pieces_spots.specs.declared.PieceSpot.{PieceSpot}

-- a row whose stage reads on, within its bounds at a place, with so many bytes held
pub record Known (stage start which detail at len : ℕ) : Type 0 where
  pub held : 3 < stage → (start + len ≡ at) × (1 ≤ len)
  pub rows : stage_row (stage_of (row stage start which detail 0 0)) ≡ row stage start which detail 0 0
  pub narrow : which < 2 ^ 32
  pub slim : detail < 2 ^ 32
  pub calm : reads_on (stage_of (row stage start which detail 0 0)) ≡ true
  pub bounds : (m : Marks) → m.at ≡ at → m.len ≡ len → stage_bounds (stage_of (row stage start which detail 0 0)) m ≡ true

-- a stage whose row has neither a kind of quotes nor a detail
pub record Plain (stage : ℕ) : Type 0 where
  pub rows : (start : ℕ) → stage_row (stage_of (row stage start 0 0 0 0)) ≡ row stage start 0 0 0 0
  pub calm : (start : ℕ) → reads_on (stage_of (row stage start 0 0 0 0)) ≡ true
  pub bounds : (start len : ℕ) (m : Marks) → start + len ≡ m.at → m.len ≡ len → 1 ≤ len → stage_bounds (stage_of (row stage start 0 0 0 0)) m ≡ true

pub record Quiet (ended one two count need low high code : ℕ) : Type 0 where
  pub e0 : ended ≡ 0
  pub e1 : one ≡ 0
  pub e2 : two ≡ 0
  pub e3 : count ≡ 0
  pub e4 : need ≡ 0
  pub e5 : low ≡ 0
  pub e6 : high ≡ 0
  pub e7 : code ≡ 0

-- words of no item, at a place behind as many brackets as are open
pub record Unheld (w : Words) : Type 0 where
  pub start : w.start ≡ 0
  pub which : w.which ≡ 0
  pub detail : w.detail ≡ 0
  pub none : w.len ≡ 0
  pub deep : w.depth ≤ w.at

-- words whose row is known, with room for their item and their brackets
pub record Stands (w : Words) : Type 0 where
  pub small : w.len ≤ longest
  pub deep : w.depth + w.len ≤ w.at
  pub known : Known w.stage w.start w.which w.detail w.at w.len

pub record Ready (w : Words) (left : ℕ) : Type 0 where
  pub mode : w.mode < 2
  pub skip : w.skip ≤ 1
  pub ended : w.ended ≡ 0
  pub one : w.one ≡ 0
  pub two : w.two ≡ 0
  pub count : w.count ≡ 0
  pub need : w.need ≡ 0
  pub low : w.low ≡ 0
  pub high : w.high ≡ 0
  pub code : w.code ≡ 0
  pub from : w.from ≤ limit
  pub to : w.to ≤ limit
  pub far : w.at + left ≤ limit
  pub small : w.len ≤ longest
  pub deep : w.depth + w.len ≤ w.at
  pub known : Known w.stage w.start w.which w.detail w.at w.len

-- the mode, the last range and the depth of words, as marks
abbrev pub base : Words → Marks
base w =
    record {
      mode = w.mode;
      skip = eqb w.skip 1;
      ended = false;
      stage = Idle;
      at = 0;
      part = whole;
      from = w.from;
      to = w.to;
      len = 0;
      depth = w.depth;
    }

abbrev pub spot_of : Words → PieceSpot
spot_of w = record { stage = w.stage; start = w.start; which = w.which; detail = w.detail; at = w.at; len = w.len; i = 0 }

abbrev pub stood : Words → PieceSpot → ℕ → Words
stood w s depth =
    record {
      mode = w.mode;
      skip = w.skip;
      ended = 0;
      stage = s.stage;
      start = s.start;
      which = s.which;
      detail = s.detail;
      one = 0;
      two = 0;
      at = s.at;
      count = 0;
      need = 0;
      low = 0;
      high = 0;
      code = 0;
      from = w.from;
      to = w.to;
      len = s.len;
      depth = depth;
    }
