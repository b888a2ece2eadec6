-- An answer of the coordinate calls as a number, and the two places of lent memory after it.
use Rattle.std.specs.Prelude.{ℕ, Float}
use Rattle.refusal.specs.Refusals as refusal
use Rattle.coordinates.specs.Answers.{Answer, float, refused}

-- `served` for a value, else the refusal's number
abbrev pub number_of : Answer → ℕ
number_of (float x) = refusal.served
number_of (refused n p) = n

-- the value, where there is one; else what was there
abbrev pub value_or : Float → Answer → Float
value_or old (float x) = x
value_or old (refused n p) = old

-- what a refusal comes with; else what was there
abbrev pub place_or : ℕ → Answer → ℕ
place_or old (float x) = old
place_or old (refused n p) = p
