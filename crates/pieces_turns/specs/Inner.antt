-- What the turns ask of their callers. No public call asks for anything.
use Rattle.std.specs.Prelude.{ℕ, ◌≤◌, ◌≡◌, Bool, true, false, List, length}
use Rattle.pieces.specs.declared.Stage.{Stage}
use Rattle.pieces.specs.declared.Stage.TheVariants.{Opening, Pound, FirstLine, Idle, Busy, Waiting, Stopped}
use Rattle.pieces.specs.declared.Marks.{Marks}
use Rattle.pieces.specs.Expected.{longest}
use Rattle.pieces.specs.Bounds.{is_in_bounds}
use Rattle.pieces_giving.specs.Answers.{state_of}

-- the reader reads on: no item waits, and no stop stands
abbrev pub reads_on : Stage → Bool
reads_on Opening = true
reads_on Pound = true
reads_on FirstLine = true
reads_on Idle = true
reads_on (Busy st p) = true
reads_on (Waiting st b) = false
reads_on (Stopped n p) = false

-- a state within its bounds that reads on, with its buffer and the text memory
pub record Sound (m : Marks) (buf text : List ℕ) : Type 0 where
  pub bounded : is_in_bounds (state_of m buf) ≡ true
  pub calm : reads_on m.stage ≡ true
  pub full : length buf ≡ longest
  pub room : longest ≤ length text
