-- What the errors of the code mean: document 01's numbers.
use Rattle.std.specs.Prelude.{ℕ, Result, Ok, Err}
use Rattle.refusal.specs.Refusals as refusal
use Rattle.nested.specs.declared.NestErrorKind.{NestErrorKind}
use Rattle.nested.specs.declared.NestErrorKind.TheVariants as kinds
use Rattle.nested.specs.declared.NestError.{NestError}

abbrev pub error_number : NestErrorKind → ℕ
error_number kinds.Alien = refusal.alien
error_number kinds.ErrorItem = refusal.error_item
error_number kinds.MarkWaits = refusal.mark_waits
error_number kinds.MisplacedDot = refusal.misplaced_dot
error_number kinds.WrongClose = refusal.wrong_close
error_number kinds.BracketOpen = refusal.bracket_open
error_number kinds.TooDeep = refusal.too_deep
error_number kinds.FewNodes = refusal.few_nodes

abbrev pub failed : NestErrorKind → ℕ → NestError
failed k p = record { kind = k; at = p }

-- the number of what a record is refused for; 0 is none
abbrev pub mark_in : {T : Type 0} → Result T NestErrorKind → ℕ
mark_in (Ok x) = 0
mark_in (Err k) = error_number k

-- what a reader answers
abbrev pub Answer : Type 0 → Type 0
Answer T = Result T NestError
