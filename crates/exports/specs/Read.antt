-- The whole-text call's answer as a number and two values.
use Rattle.std.specs.Prelude.{ℕ, List, [], ◌∷◌}
use Rattle.refusal.specs.Refusals as refusal
use Rattle.items.specs.Whole.{Answer, served, refused}

-- `served` where the items were written, else 01's number of the refusal
unfoldable pub read_number : Answer → ℕ
read_number (served items text) = refusal.served
read_number (refused n a b) = n

-- how many items and how many bytes of text were written, or what the refusal comes with
unfoldable pub read_values : Answer → List ℕ
read_values (served items text) = items ∷ text ∷ []
read_values (refused n a b) = a ∷ b ∷ []
