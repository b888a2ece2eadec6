-- What the code's answers say: document 01's numbers and values for each case of an enum, and the state, whose buffer is lent to the
-- inner calls.
use Rattle.std.specs.Prelude.{ℕ, Bool, true, false, List, [], length, eqb, if◌then◌else◌, Result, Ok, Err}
use Rattle.refusal.specs.Refusals as refusal
use Rattle.pieces.specs.declared.Marks.{Marks}
use Rattle.pieces.specs.declared.Got.{Got}
use Rattle.pieces.specs.declared.Got.TheVariants.{Item, More, Finished, Refused}
use Rattle.pieces.specs.declared.OpenError.{OpenError}
use Rattle.pieces.specs.declared.OpenError.TheVariants.{NoMode}
use Rattle.pieces.specs.declared.Opened.{Opened}
use Rattle.pieces.specs.declared.Answer.{Answer}
use Rattle.pieces.specs.declared.Pieced.{Pieced}
use Rattle.pieces.specs.declared.Turned.{Turned}
use Rattle.pieces.specs.Calls.{What, more, refused, Reply, reply, declared, piece_of, end_of}
use Rattle.pieces.specs.Expected.{longest}
pub use Rattle.pieces_giving.specs.Answers.{what_of, state_of}

abbrev pub answered : Answer → List ℕ → Reply
answered a text = reply a.taken (what_of a.got text) a.state

-- opening: ready for the first piece, or 25 with the mode
abbrev pub start_of : Result (Unit {0}) OpenError → What
start_of (Ok u) = more
start_of (Err (NoMode mode)) = refused refusal.no_such_mode mode

abbrev pub opened : Opened → Reply
opened o = reply 0 (start_of o.start) o.state

-- ---- the marks by value, the buffer lent

abbrev pub pieced : Pieced → List ℕ → List ℕ → Reply
pieced p buf text = reply p.taken (what_of p.got text) (state_of p.marks buf)

-- the calls with the buffer lent: no state has a buffer of another length, so that is 27
abbrev pub piece_in : Marks → List ℕ → List ℕ → ℕ → Reply
piece_in m buf bs room = if eqb (length buf) longest then piece_of (state_of m buf) bs room else reply 0 (refused refusal.out_of_bounds 0) (state_of m buf)

abbrev pub end_in : Marks → List ℕ → ℕ → Reply
end_in m buf room = if eqb (length buf) longest then end_of (state_of m buf) room else reply 0 (refused refusal.out_of_bounds 0) (state_of m buf)

-- nothing was given yet
abbrev pub is_more : Got → Bool
is_more (Item r) = false
is_more More = true
is_more Finished = false
is_more (Refused n p) = false

abbrev pub refuses : Marks → ℕ → ℕ → Pieced
refuses m n p = record { marks = m; taken = 0; got = Refused n p }

-- at the end nothing more means that all is given
abbrev pub ends_with : Turned → Pieced
ends_with t = record { marks = t.marks; taken = 0; got = if is_more t.got then Finished else t.got }

abbrev pub end_declared : Marks → Marks
end_declared m = (declared (state_of m [])).marks
