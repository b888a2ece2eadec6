-- The call over slices and numbers alone: its answer as a number and two values, and all that it leaves.
use Rattle.std.specs.Prelude.{ℕ, List, [], ◌∷◌, Result, Ok, Err}
use Rattle.refusal.specs.Refusals as refusal
use Rattle.chars.specs.Encode.{lay}
use Rattle.findings.specs.Find.{Outcome, call_of}
use Rattle.findings.specs.declared.Counted.{Counted}
use Rattle.findings.specs.declared.TooFew.{TooFew}

-- `served` where the plan was read, else 22: 20 and 21 are findings
abbrev pub number_in : Result Counted TooFew → ℕ
number_in (Ok n) = refusal.served
number_in (Err few) = refusal.too_few

-- how many findings there are and how many of them are errors, or how many rows are needed
abbrev pub values_in : Result Counted TooFew → List ℕ
values_in (Ok n) = n.findings ∷ n.errors ∷ []
values_in (Err few) = few.rows ∷ 0 ∷ []

-- what the call leaves: its number, and the three lent memories after it
pub record LeftBehind : Type 0 where
  pub number : ℕ
  pub records : List ℕ
  pub findings : List ℕ
  pub values : List ℕ

abbrev pub left_behind : ℕ → List ℕ → List ℕ → List ℕ → LeftBehind
left_behind n records findings values = record { number = n; records = records; findings = findings; values = values }

-- the values are written where there is room for both
abbrev pub leaving : Outcome → List ℕ → LeftBehind
leaving c values = left_behind (number_in c.answer) c.rows c.findings (lay (values_in c.answer) values)

unfoldable pub find_left : List ℕ → List ℕ → List ℕ → List ℕ → LeftBehind
find_left source records findings values = leaving (call_of source records findings) values
