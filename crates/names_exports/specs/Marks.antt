-- The answer to a party as a mark and a number: what C passes on.
use Rattle.std.specs.Prelude.{ℕ, List}
use Rattle.refusal.specs.Refusals as refusal
use Rattle.names.specs.Call.{Outcome}
use Rattle.names.specs.Answers.{Told, Number, Refused}

-- what the call gives: its mark, the number, and the final contents of the lent memory
pub record Marked : Type 0 where
  pub mark : ℕ
  pub number : ℕ
  pub words : List ℕ
  pub bytes : List ℕ

abbrev pub entered : ℕ → ℕ → List ℕ → List ℕ → Marked
entered m n w b = record { mark = m; number = n; words = w; bytes = b }

-- `served` and the number; or the refusal's number and what it comes with, 0
abbrev pub marked : Told → List ℕ → List ℕ → Marked
marked (Number n) w b = entered refusal.served n w b
marked (Refused k) w b = entered k 0 w b

unfoldable pub entered_of : Outcome → Marked
entered_of o = marked o.answer o.words o.bytes
