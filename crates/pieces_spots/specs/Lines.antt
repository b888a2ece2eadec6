-- The bytes of a line, and a comment that its newline ends.
use Rattle.std.specs.Prelude.{ℕ, ◌+◌, ◌≤◌, ◌<◌, ◌≡◌, Bool, List, length, take, drop}
use Rattle.laws.specs.Quoted.{code}
use Rattle.laws.specs.Lent.{written}
use Rattle.laws.specs.Texts.{span}
use Rattle.byte_runs.specs.Runs.{plain, block, PlainTo}
use Rattle.items.specs.Kinds as kind
use Rattle.pieces_spots.specs.declared.PieceSpot.{PieceSpot}

-- a byte of ASCII that is no newline
abbrev pub of_line : ℕ → Bool
of_line c = plain (code "\n") (code "\n") c

-- r is at most n bytes past a place, and the run from the place on goes to r and on
abbrev pub LineTo : List ℕ → ℕ → ℕ → ℕ → Type 0
LineTo t = PlainTo t (code "\n") (code "\n")

-- so many bytes of a line, in whole blocks, are copied to the front of a memory
pub record CopiedBlocks (raw old now : List ℕ) (i : ℕ) : Type 0 where
  pub inside : i ≤ length raw
  pub run : i + span of_line (drop i raw) ≡ span of_line raw
  pub whole : 0 < i → block ≤ i
  pub wrote : now ≡ written (take i raw) old

-- the spot past n bytes of a comment and its newline
abbrev pub line_done : PieceSpot → ℕ → PieceSpot
line_done s n = record { stage = 31; start = s.start; which = kind.Comment; detail = 0; at = s.at + n + 1; len = s.len + n + 1; i = s.i + n + 1 }

-- a comment that is whole, before a byte
pub record Commented (s : PieceSpot) (piece : List ℕ) : Type 0 where
  pub which : s.which ≡ kind.Comment
  pub detail : s.detail ≡ 0
  pub inside : s.i < length piece
