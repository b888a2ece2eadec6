-- The bytes of a piece that leave the reader where it stands, passed at once: those that keep an item in its phase, blanks between items,
-- and in a first line the characters of ASCII before its newline.
use Rattle.std.specs.Prelude.{ℕ, ◌+◌, Bool, false, List, [], ◌∷◌, length}
use Rattle.laws.specs.Quoted.{code}
use Rattle.byte_runs.specs.Runs.{plain, blank}
use Rattle.steps.specs.Runs.{keeps}
use Rattle.pieces.specs.declared.Stage.{Stage}
use Rattle.pieces.specs.declared.Stage.TheVariants.{Opening, Pound, FirstLine, Idle, Busy, Waiting, Stopped}
use Rattle.pieces.specs.declared.State.{State}
use Rattle.pieces.specs.Calls.{becomes, last_of, laid_at}

-- which bytes these are, by the stage
abbrev pub kept : Stage → ℕ → Bool
kept Opening c = false
kept Pound c = false
kept FirstLine c = plain (code "\n") (code "\n") c
kept Idle c = blank c
kept (Busy st p) c = keeps p c
kept (Waiting st b) c = false
kept (Stopped n p) c = false

-- the state past some of them: an item holds them
abbrev pub passed_at : State → Stage → List ℕ → State
passed_at s Opening bs = s
passed_at s Pound bs = s
passed_at s FirstLine bs = becomes s s.buf FirstLine (s.marks.at + length bs) 0 (last_of s)
passed_at s Idle bs = becomes s s.buf Idle (s.marks.at + length bs) 0 (last_of s)
passed_at s (Busy st p) bs =
    becomes s (laid_at s.marks.len bs s.buf) (Busy st p) (s.marks.at + length bs) (s.marks.len + length bs) (last_of s)
passed_at s (Waiting st b) bs = s
passed_at s (Stopped n p) bs = s

abbrev pub passed : State → List ℕ → State
passed s [] = s
passed s (b ∷ bs) = passed_at s s.marks.stage (b ∷ bs)
