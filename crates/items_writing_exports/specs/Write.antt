-- What C gets: the answer as a number and a value, and the two memories that the call writes to.
use Rattle.std.specs.Prelude.{ℕ, List, [], ◌∷◌}
use Rattle.refusal.specs.Refusals as refusal
use Rattle.chars.specs.Encode.{lay}
use Rattle.items_writing.specs.Call.{Answer, served, refused, Call}

-- `served` where the text was written, else the refusal's number
abbrev pub number_of : Answer → ℕ
number_of (served n) = refusal.served
number_of (refused m p) = m

-- how many bytes were written, or what the refusal comes with
abbrev pub value_of : Answer → ℕ
value_of (served n) = n
value_of (refused m p) = p

-- all that a call leaves: its result and the two memories
pub record Seen : Type 0 where
  pub number : ℕ
  pub values : List ℕ
  pub out : List ℕ

abbrev pub sees : ℕ → List ℕ → List ℕ → Seen
sees n v o = record { number = n; values = v; out = o }

-- the value goes to the front of the values, if there is room
abbrev pub seen : Call → List ℕ → Seen
seen c values = sees (number_of c.answer) (lay (value_of c.answer ∷ []) values) c.out
