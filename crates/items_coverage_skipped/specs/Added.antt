-- 02 (xiii), its last sentence: "With comments skipped the same holds once the comments' extents are added." The comments are those that the
-- definition of items has of the text, no others and none twice.
use Rattle.std.specs.Prelude.{ℕ, Bool, List, [], ◌∷◌, map, length, eqb, if◌then◌else◌}
use Rattle.chars.specs.Utf8.{sequences, chars}
use Rattle.items.specs.Kinds as kind
use Rattle.items.specs.Items.{Item, items, byte_count, ends_before}
use Rattle.pieces.specs.Expected.{Ending, clean, stop, ending_of}
use Rattle.items_coverage.specs.Covered.{Seen}
use Rattle.items_coverage.specs.Sentences.{InOrder, NoneUnseen, NotMore}
use Rattle.items_coverage.specs.Records.{item_seen}

-- the comments among some items
unfoldable pub comments : List Item → List Item
comments [] = []
comments (i ∷ is) = let more = comments is in if eqb i.kind kind.Comment then i ∷ more else more

-- `all` is the records `rs` and the comments `cs`, each of the two in its order
pub data Added : List Seen → List Seen → List Seen → Type 0 where
  none : Added [] [] []
  record_next : (r : Seen) {rs cs all : List Seen} → Added rs cs all → Added (r ∷ rs) cs (r ∷ all)
  comment_next : (c : Seen) {rs cs all : List Seen} → Added rs cs all → Added rs (c ∷ cs) (c ∷ all)

-- "the same holds once the comments' extents are added": the three sentences of a text's bytes, of the records with the comments of some items
pub record SeenWith (bytes : List ℕ) (rs : List Seen) (is : List Item) : Type 0 where
  pub all : List Seen
  pub added : Added rs (map item_seen (comments is)) all
  pub in_order : InOrder bytes all
  pub none_unseen : NoneUnseen bytes all
  pub not_more : NotMore bytes all

-- ---- a text that comes in pieces

-- The items that calls give of it, comments kept: all of them, or 01's before a stop: "of the text made of the whole characters before that byte's
-- character, those whose extents end before that text does"
abbrev pub told_by : Bool → List ℕ → Ending → List Item
told_by report bytes clean = items report (chars bytes)
told_by report bytes (stop number place q) = ends_before (byte_count q) (items report q)

unfoldable pub told_of : Bool → List ℕ → List Item
told_of report bytes = told_by report bytes (ending_of report (length bytes) [] (sequences 0 0 bytes))
