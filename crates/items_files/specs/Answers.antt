-- What the two calls may say, and the request's numbers for each case of the code's answers.
use Rattle.std.specs.Prelude.{ℕ, List, Result, Ok, Err}
use Rattle.refusal.specs.Refusals as refusal
use Rattle.items_files.specs.declared.StoreError.{StoreError}
use Rattle.items_files.specs.declared.StoreError.TheVariants as writes
use Rattle.items_files.specs.declared.LoadError.{LoadError}
use Rattle.items_files.specs.declared.LoadError.TheVariants as reads

-- served with the bytes written or the items read, or a refusal by its number with what it comes with
pub data Answer : Type 0 where
  served : ℕ → Answer
  refused : ℕ → ℕ → Answer

abbrev pub unwritten : StoreError → Answer
unwritten (writes.Back item) = refused refusal.goes_back item
unwritten (writes.TooFew bytes) = refused refusal.too_few bytes

abbrev pub wrote : Result ℕ StoreError → Answer
wrote (Ok bytes) = served bytes
wrote (Err e) = unwritten e

abbrev pub unread : LoadError → Answer
unread (reads.Cut at) = refused refusal.cut_short at
unread (reads.Wrong at) = refused refusal.wrong_number at
unread (reads.Over at) = refused refusal.over_sum at
unread (reads.TooFew items) = refused refusal.too_few items

-- of the reader's call the items, of its first pass the words
abbrev pub got : Result ℕ LoadError → Answer
got (Ok n) = served n
got (Err e) = unread e

-- a call's answer, and what the lent memory then holds
pub record Outcome : Type 0 where
  pub answer : Answer
  pub memory : List ℕ

abbrev pub outcome : Answer → List ℕ → Outcome
outcome a m = record { answer = a; memory = m }
