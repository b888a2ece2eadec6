-- What the answers of the inner functions say: an item with its text, a turn, and the state, whose buffer is lent to them.
use Rattle.std.specs.Prelude.{ℕ, List, take}
use Rattle.items.specs.Items.{Place, range, words_of}
use Rattle.pieces.specs.declared.Stage.TheVariants.{Stopped}
use Rattle.pieces.specs.declared.Part.{Part}
use Rattle.pieces.specs.declared.Marks.{Marks}
use Rattle.pieces.specs.declared.State.{State}
use Rattle.pieces.specs.declared.Got.{Got}
use Rattle.pieces.specs.declared.Got.TheVariants.{Item, More, Finished, Refused}
use Rattle.pieces.specs.declared.Turned.{Turned}
use Rattle.pieces.specs.Calls.{What, item, more, finished, refused, Turn, on, off, marks, text_after}

-- an item's text is what the text memory holds from 0 to the place that the record's last word says; `text` is the text memory after
-- the call
abbrev pub what_of : Got → List ℕ → What
what_of (Item r) text = item (record { words = words_of r; text = take r.nine.past text })
what_of More text = more
what_of Finished text = finished
what_of (Refused n p) text = refused n p

abbrev pub state_of : Marks → List ℕ → State
state_of m buf = record { buf = buf; marks = m }

-- a turn that goes on gives nothing yet
abbrev pub turn_by : Got → State → List ℕ → Turn
turn_by (Item r) s text = off s (what_of (Item r) text)
turn_by More s text = on s
turn_by Finished s text = off s finished
turn_by (Refused n p) s text = off s (refused n p)

abbrev pub turn_in : Turned → List ℕ → List ℕ → Turn
turn_in t buf text = turn_by t.got (state_of t.marks buf) text

-- the text memory after a turn
abbrev pub text_turned : Turn → List ℕ → List ℕ
text_turned (on s) old = old
text_turned (off s w) old = text_after w old

abbrev pub last_in : Marks → Place
last_in m = range m.from m.to

abbrev pub goes_on : Marks → Turned
goes_on m = record { marks = m; got = More }

-- a stop that stands from then on
abbrev pub stops : Marks → ℕ → ℕ → Turned
stops m n p = record { marks = marks m (Stopped n p) m.at 0 (last_in m); got = Refused n p }

-- the marks with another character begun
abbrev pub begun : Marks → Part → Marks
begun m p =
    record { mode = m.mode; skip = m.skip; ended = m.ended; stage = m.stage; at = m.at; part = p; from = m.from; to = m.to; len = m.len; depth = m.depth }
