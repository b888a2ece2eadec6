-- The call over slices and numbers alone: its answer as a number and two values, and all that it leaves.
use Rattle.std.specs.Prelude.{ℕ, Bool, List, [], ◌∷◌}
use Rattle.refusal.specs.Refusals as refusal
use Rattle.chars.specs.Encode.{lay}
use Rattle.items.specs.Whole.{Answer, served, refused}
use Rattle.lexer_fields.specs.Fields.{FieldsCall, fields_of}

-- `served` where the parts were written, else the refusal's number
abbrev pub number_in : Answer → ℕ
number_in (served items text) = refusal.served
number_in (refused n a b) = n

-- how many items and how many bytes of text were written, or what the refusal comes with
abbrev pub values_in : Answer → List ℕ
values_in (served items text) = items ∷ text ∷ []
values_in (refused n a b) = a ∷ b ∷ []

-- what the call leaves: its number, and the four lent memories after it
pub record LeftBehind : Type 0 where
  pub number : ℕ
  pub rows : List ℕ
  pub records : List ℕ
  pub text : List ℕ
  pub values : List ℕ

abbrev pub left_behind : ℕ → List ℕ → List ℕ → List ℕ → List ℕ → LeftBehind
left_behind n rows recs text values = record { number = n; rows = rows; records = recs; text = text; values = values }

-- the values are written where there is room for both
abbrev pub leaving : FieldsCall → List ℕ → LeftBehind
leaving c values = left_behind (number_in c.answer) c.rows c.records c.text (lay (values_in c.answer) values)

unfoldable pub fields_left : List ℕ → List ℕ → ℕ → Bool → List ℕ → List ℕ → List ℕ → List ℕ → LeftBehind
fields_left source ends mode skip rows recs text values = leaving (fields_of source ends mode skip rows recs text) values
