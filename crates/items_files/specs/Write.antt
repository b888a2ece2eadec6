-- The writer of item files.
use Rattle.std.specs.Prelude.{ℕ, ◌+◌, ◌-◌, ◌*◌, ◌/◌, List, [], ◌∷◌, ◌++◌, ltb, length, take, if◌then◌else◌, Result, Ok, Err}
use Rattle.laws.specs.Lent.{written}
use Rattle.items.specs.Items.{record_words}
use Rattle.refusal.specs.Refusals as refusal
use Rattle.items_files.specs.Groups.{image}
use Rattle.items_files.specs.Layout.{base, after, first}
use Rattle.items_files.specs.Answers.{served, refused, unwritten, Outcome, outcome}
use Rattle.items_files.specs.declared.Before.{Before}
use Rattle.items_files.specs.declared.StoreError.{StoreError}
use Rattle.items_files.specs.declared.StoreError.TheVariants.{Back}

-- the records that a memory holds; the words left over belong to none
abbrev pub whole_records : List ℕ → List ℕ
whole_records words = take (length words / record_words * record_words) words

-- the bytes of the words' numbers
unfoldable pub file : Before → List ℕ → List ℕ
file b [] = []
file b (w ∷ ws) = image (w - base b) ++ file (after b w) ws

-- The first word that is below its base, from word j on: an item's start that goes back, or an end before its start.
pub data Goes : Type 0 where
  on : Goes
  back : ℕ → Goes

unfoldable pub goes : Before → ℕ → List ℕ → Goes
goes b j [] = on
goes b j (w ∷ ws) = let more = goes (after b w) (j + 1) ws in if ltb w (base b) then back j else more

-- the bytes needed, or the record at which the list goes back
abbrev pub found : Goes → ℕ → Result ℕ StoreError
found on n = Ok n
found (back j) n = Err (Back (j / record_words))

unfoldable pub measured : List ℕ → Result ℕ StoreError
measured ws = found (goes first 0 ws) (length (file first ws))

-- 32 comes with the record at which the list goes back, counted from 0; then 22 with the bytes needed; refused, nothing is written
abbrev pub store : Result ℕ StoreError → List ℕ → List ℕ → Outcome
store (Err e) bytes out = outcome (unwritten e) out
store (Ok n) bytes out =
    if ltb (length out) n
    then outcome (refused refusal.too_few n) out
    else outcome (served n) (written bytes out)

unfoldable pub write_of : List ℕ → List ℕ → Outcome
write_of records out = store (measured (whole_records records)) (file first (whole_records records)) out
