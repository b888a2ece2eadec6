-- What the calls do with a state that the caller keeps as numbers: what crate `pieces` says of the state that the words stand for, with
-- the next state as words again. Words that are the code of no marks, and a buffer of another length, are 27, and stay as they were.
use Rattle.std.specs.Prelude.{ℕ, Bool, List, length, eqb, if◌then◌else◌}
use Rattle.refusal.specs.Refusals as refusal
use Rattle.pieces.specs.declared.Marks.{Marks}
use Rattle.pieces.specs.declared.State.{State}
use Rattle.pieces.specs.declared.Pieced.{Pieced}
use Rattle.pieces.specs.Calls.{What, refused, Reply, fresh, open_of}
use Rattle.pieces.specs.Expected.{longest}
use Rattle.pieces_calls.specs.Answers.{what_of, start_of, piece_in, end_in}
use Rattle.pieces_lent.specs.declared.Words.{Words}
use Rattle.pieces_lent.specs.declared.LentState.{LentState}
use Rattle.pieces_lent.specs.declared.Fresh.{Fresh}
use Rattle.pieces_lent.specs.declared.Told.{Told}
use Rattle.pieces_lent.specs.declared.Taken.{Taken}
use Rattle.pieces_lent.specs.Coding.{standing, coded, is_code}

-- what a call answers: the bytes taken, what it gives, and the state
pub record Said : Type 0 where
  pub taken : ℕ
  pub what : What
  pub state : LentState

abbrev pub lent : Words → List ℕ → LentState
lent w buf = record { buf = buf; words = w }

-- a state by value of crate `pieces`, as numbers
abbrev pub lend : State → LentState
lend t = lent (coded t.marks) t.buf

-- a reply of crate `pieces`, its state as words
abbrev pub worded : Reply → Said
worded r = record { taken = r.taken; what = r.what; state = lend r.state }

-- 27 takes nothing and leaves the state as it was
abbrev pub outside : LentState → Said
outside s = record { taken = 0; what = refused refusal.out_of_bounds 0; state = s }

-- what a call f does with the marks that the words stand for
abbrev pub for_code : LentState → (Marks → Reply) → Said
for_code s f = if is_code s.words then worded (f (standing s.words)) else outside s

unfoldable pub piece_for : LentState → List ℕ → ℕ → Said
piece_for s bs room = for_code s (λ m. piece_in m s.buf bs room)

unfoldable pub end_for : LentState → ℕ → Said
end_for s room = for_code s (λ m. end_in m s.buf room)

-- opening makes every byte and word anew; a buffer of another length is left as it was
unfoldable pub open_for : ℕ → Bool → List ℕ → Said
open_for mode skip buf =
    if eqb (length buf) longest then worded (open_of mode skip) else outside (lent (coded (fresh 0 skip).marks) buf)

-- ---- what the code's answers say

abbrev pub said : Told → List ℕ → List ℕ → Said
said t buf text = record { taken = t.taken; what = what_of t.got text; state = lent t.words buf }

abbrev pub told_of : Pieced → Told
told_of p = record { words = coded p.marks; taken = p.taken; got = p.got }

abbrev pub freshly : Fresh → Said
freshly f = record { taken = 0; what = start_of f.start; state = f.state }

-- the same where the state is lent
abbrev pub said_of : Taken → LentState → List ℕ → Said
said_of t s text = record { taken = t.taken; what = what_of t.got text; state = s }
