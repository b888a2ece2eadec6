-- What the reader's two calls answer, and what they leave: the reader that is open or refused, and after each call the reader that moved on
-- or stayed. Both by the definitions of `lexer`: `open_of` and `next_of`.
use Rattle.std.specs.Prelude.{ℕ, Bool, false, List, [], None, Option, Some, Result, Ok, Err}
use Rattle.std.specs.Borrow.{Bor}
use Rattle.refusal.specs.Refusals as refusal
use Rattle.items.specs.Items.{unset, words_of}
use Rattle.items.specs.Whole.{limit}
use Rattle.items.specs.declared.Record.{Record}
use Rattle.meaning.specs.Places.{range_of}
use Rattle.lexer.specs.Answers.{Reply, Replied, item, finished, refuses, next_of}
use Rattle.lexer.specs.Opening.{Opening, opened, refused, open_of}
use Rattle.lexer.specs.declared.Position.{Position}
use Rattle.lexer.specs.declared.NextError.{NextError}
use Rattle.lexer.specs.declared.NextError.TheVariants as next
use Rattle.lexer.specs.declared.OpenError.{OpenError}
use Rattle.lexer.specs.declared.OpenError.TheVariants as opens
use Rattle.reader.specs.declared.Reader.{Reader}

-- ---- one item

-- an item's record; the end; or 01's number of a refusal and the two values that it comes with
pub data What : Type 0 where
  gives : List ℕ → What
  ends : What
  stops : ℕ → ℕ → ℕ → What

-- what each answer means
abbrev pub given_of : Result (Option Record) NextError → What
given_of (Ok (Some r)) = gives (words_of r)
given_of (Ok None) = ends
given_of (Err next.TooLong) = stops refusal.over_long limit 0
given_of (Err (next.NoRoom text)) = stops refusal.too_few 1 text

-- an answer, where reading then stands, and what the text memory then holds
pub record Stepped : Type 0 where
  pub what : What
  pub position : Position
  pub text : List ℕ

abbrev pub stepped : What → Position → List ℕ → Stepped
stepped w p t = record { what = w; position = p; text = t }

-- past an item reading stands after it; else it stays
abbrev pub step_on : Position → Reply → List ℕ → Stepped
step_on p (item words after) text = stepped (gives words) after text
step_on p finished text = stepped ends p text
step_on p (refuses number first second) text = stepped (stops number first second) p text

abbrev pub stepped_by : Position → Replied → Stepped
stepped_by p r = step_on p r.reply r.text

unfoldable pub step_of : List ℕ → Position → List ℕ → Stepped
step_of source p text = stepped_by p (next_of source p text)

-- the same of a reader: the answer, the reader after the call, and what the text memory then holds
pub record Moved : Type 0 where
  pub what : What
  pub reader : Reader
  pub text : List ℕ

abbrev pub moved : What → Reader → List ℕ → Moved
moved w r t = record { what = w; reader = r; text = t }

-- a source, read on from a position
abbrev pub reading : Bor (List ℕ) → Position → Reader
reading source p = record { source = source; position = p }

abbrev pub move_by : Bor (List ℕ) → Stepped → Moved
move_by source s = moved s.what (reading source s.position) s.text

-- 01: "one item a call"; "an item whose text doesn't fit gives 22, with 1 and its text bytes, staying there"
unfoldable pub next_for : Reader → List ℕ → Moved
next_for r text = move_by r.source (step_of r.source.now r.position text)

-- ---- opening

-- open, or 01's number of a refusal and what it comes with
pub data Stand : Type 0 where
  stands : Stand
  refuses_with : ℕ → ℕ → Stand

-- what each answer means
abbrev pub standing_of : Result Unit OpenError → Stand
standing_of (Ok t) = stands
standing_of (Err (opens.NoMode mode)) = refuses_with refusal.no_such_mode mode
standing_of (Err opens.TooLong) = refuses_with refusal.over_long limit
standing_of (Err (opens.NotUtf8 at)) = refuses_with refusal.not_utf8 at

-- whether a reader is open, and where it starts
pub record Started : Type 0 where
  pub stand : Stand
  pub position : Position

abbrev pub started : Stand → Position → Started
started s p = record { stand = s; position = p }

-- the start of an empty text
abbrev pub nowhere : Position
nowhere = record { spot = record { at = 0; last = range_of unset; second = false; report = false; skip = false }; depth = 0 }

abbrev pub start_by : Opening → Started
start_by (opened p) = started stands p
start_by (refused number value) = started (refuses_with number value) nowhere

unfoldable pub start_for : List ℕ → ℕ → Bool → Started
start_for source mode skip = start_by (open_of source mode skip)

-- a reader holds the source where it is open, else an empty text
abbrev pub lent_for : Stand → List ℕ → List ℕ
lent_for stands source = source
lent_for (refuses_with number value) source = []

-- whether a reader is open, the text that it holds, and where it starts
pub record OpenedAs : Type 0 where
  pub stand : Stand
  pub source : List ℕ
  pub position : Position

abbrev pub opened_as : Stand → List ℕ → Position → OpenedAs
opened_as s l p = record { stand = s; source = l; position = p }

abbrev pub open_by : List ℕ → Started → OpenedAs
open_by source s = opened_as s.stand (lent_for s.stand source) s.position

-- 01: "it opens under 25, 20, 21"
unfoldable pub open_for : List ℕ → ℕ → Bool → OpenedAs
open_for source mode skip = open_by source (start_for source mode skip)
