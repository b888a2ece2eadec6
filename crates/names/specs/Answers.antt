-- What the answers mean: document 01's number and values for each case.
use Rattle.std.specs.Prelude.{ℕ, Result, Ok, Err}
use Rattle.refusal.specs.Refusals as refusal
use Rattle.names.specs.declared.NameError.{NameError}
use Rattle.names.specs.declared.NameError.TheVariants as error

abbrev pub error_number : NameError → ℕ
error_number error.OutOfBounds = refusal.out_of_bounds
error_number error.NoParty = refusal.no_party
error_number error.NoRoom = refusal.no_room
error_number error.NoName = refusal.no_name

-- a name's number; or 01's number of a refusal, which comes with 0
pub data Told : Type 0 where
  Number : ℕ → Told
  Refused : ℕ → Told

abbrev pub told_of : Result ℕ NameError → Told
told_of (Ok n) = Number n
told_of (Err e) = Refused (error_number e)

-- the mark of a call that gives no number: `served`, or the refusal's number
abbrev pub mark_in : {T : Type 0} → Result T NameError → ℕ
mark_in (Ok x) = refusal.served
mark_in (Err e) = error_number e
