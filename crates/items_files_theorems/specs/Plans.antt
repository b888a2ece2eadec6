-- The records of a plan, as each of the three ways of reading gives them: all in one call, or one after another.
use Rattle.std.specs.Prelude.{ℕ, ◌*◌, Bool, List, [], ◌∷◌, ◌++◌, map, take}
use Rattle.items.specs.Items.{record_words}
use Rattle.items.specs.Whole.{Call}
use Rattle.pieces_any_calls.specs.After.{sum_of}
use Rattle.pieces_any_calls.specs.After as any
use Rattle.reader_exports.specs.Reader.{Memory}
use Rattle.reader_exports_theorems.specs.Calls as reader

-- records one after another
abbrev pub joined : List (List ℕ) → List ℕ
joined [] = []
joined (r ∷ rs) = r ++ joined rs

-- the n records that a whole-text call left in the memory
abbrev pub whole_plan : ℕ → Call → List ℕ
whole_plan n c = take (record_words * n) c.records

-- the records that piece and end calls gave, whatever calls were made
abbrev pub piece_plan : ℕ → Bool → List any.Call → List ℕ
piece_plan mode skip calls = joined (map (λ g. g.words) (sum_of mode skip calls).items)

-- the records that the first n calls for the reader's next item gave
abbrev pub reader_plan : ℕ → List ℕ → Memory → List ℕ
reader_plan n source m = joined (reader.calls n source m)
