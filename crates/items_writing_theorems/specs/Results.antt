-- What is written for a source that is read in report mode, and what the calls hand on to each other.
use Rattle.std.specs.Prelude.{ℕ, ◌+◌, ◌*◌, ◌≡◌, Bool, true, List, take}
use Rattle.items.specs.Items.{Item, record_words}
use Rattle.items.specs.Whole as whole
use Rattle.items_writing.specs.Written.{entries, written}
use Rattle.items_writing.specs.Shapes.{clean}

-- the text that is written for the items of a source
abbrev pub result : List ℕ → List Item → List ℕ
result source is = written true (entries source is)

-- ---- the calls, in report mode

-- the items that `read` gives for a source, comments left out or not
abbrev pub items_read : List ℕ → Bool → List Item
items_read source skip = whole.items_in source 1 skip

-- "For records with no error and no comment item": `read`, given these memories, served n items and m text bytes of such a source
pub record Read (source : List ℕ) (skip : Bool) (recs text : List ℕ) (n m : ℕ) : Type 0 where
  pub served_it : (whole.read_of source 1 skip recs text).answer ≡ whole.served n m
  pub is_clean : clean (items_read source skip) ≡ true

-- what a caller hands on of the memories: n records, with some words past them, and the text memory
abbrev pub records_read : List ℕ → Bool → List ℕ → List ℕ → ℕ → ℕ → List ℕ
records_read source skip recs text n past = take (n * record_words + past) (whole.read_of source 1 skip recs text).records

abbrev pub text_read : List ℕ → Bool → List ℕ → List ℕ → List ℕ
text_read source skip recs text = (whole.read_of source 1 skip recs text).text
