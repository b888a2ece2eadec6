-- The call, all of it: what it answers and what the lent memory holds afterwards. 02 (viii), "Refusals": "at the first record
-- concerned, 48 .., else 47 ..; then 20 if the result would pass that limit; 22 last, with the bytes needed; nothing written".
use Rattle.std.specs.Prelude.{ℕ, true, List, length, ltb, if◌then◌else◌, Result, Ok, Err}
use Rattle.laws.specs.Lent as lent
use Rattle.refusal.specs.Refusals as refusal
use Rattle.items_writing.specs.declared.WriteWords.{WriteWords}
use Rattle.items_writing.specs.declared.WriteError.{WriteError}
use Rattle.items_writing.specs.declared.WriteError.TheVariants as error
use Rattle.items_writing.specs.Written.{written}
use Rattle.items_writing.specs.Records.{records_in, judge, entries_of}

-- served: how many bytes; refused: the number, and what it comes with: the record, counted from 0, the limit, or the bytes needed
pub data Answer : Type 0 where
  served : ℕ → Answer
  refused : ℕ → ℕ → Answer

pub record Call : Type 0 where
  pub answer : Answer
  pub out : List ℕ

abbrev pub call : Answer → List ℕ → Call
call a o = record { answer = a; out = o }

-- 20, then 22; else the text w from the memory's start on, and everything past it stays
unfoldable pub deliver : ℕ → List ℕ → List ℕ → Call
deliver most w out =
    if ltb most (length w) then call (refused refusal.over_long most) out
    else if ltb (length out) (length w) then call (refused refusal.too_few (length w)) out
    else call (served (length w)) (lent.written w out)

-- the code's refusals, by their numbers
abbrev pub refused_by : WriteError → Answer
refused_by (error.Alien p) = refused refusal.alien p
refused_by (error.Unwritten p) = refused refusal.unwritten p
refused_by error.TooLong = refused refusal.over_long refusal.limit
refused_by (error.NoRoom n) = refused refusal.too_few n

abbrev pub if_fine : Result (Unit {0}) WriteError → Call → List ℕ → Call
if_fine (Ok u) c out = c
if_fine (Err e) c out = call (refused_by e) out

-- with a limit of one's own
unfoldable pub write_within : ℕ → List ℕ → List ℕ → List ℕ → List ℕ → Call
write_within most words source text out =
    let rs : List WriteWords = records_in words in
    if_fine (judge source text 0 rs) (deliver most (written true (entries_of source text rs)) out) out

abbrev pub write_of : List ℕ → List ℕ → List ℕ → List ℕ → Call
write_of words source text out = write_within refusal.limit words source text out

-- the code's answer
abbrev pub answered : Result ℕ WriteError → Answer
answered (Ok n) = served n
answered (Err e) = refused_by e
