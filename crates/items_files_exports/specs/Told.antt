-- An answer of the two calls as a number and a value.
use Rattle.std.specs.Prelude.{ℕ}
use Rattle.refusal.specs.Refusals as refusal
use Rattle.items_files.specs.Answers.{Answer, served, refused}

-- `served` where the file was written or read, else the refusal's number
abbrev pub number_of : Answer → ℕ
number_of (served n) = refusal.served
number_of (refused m n) = m

-- how many bytes were written or items read, or what the refusal comes with
abbrev pub value_of : Answer → ℕ
value_of (served n) = n
value_of (refused m n) = n
