-- The whole-text call, all of it: what it answers and what both lent memories hold afterwards. Document 01, "Refused calls".
use Rattle.std.specs.Prelude.{ℕ, ◌/◌, Bool, List, length, eqb, leb, ltb, if◌then◌else◌, None, Option, Some}
use Rattle.laws.specs.Lent.{written}
use Rattle.refusal.specs.Refusals as refusal
use Rattle.chars.specs.Utf8.{chars, first_bad}
use Rattle.items.specs.Items.{Item, items, kept, record_words, records, texts}

-- served: how many items, and how many bytes of decoded text; refused: 01's number, and the two values that it comes with (0 where
-- it has one)
pub data Answer : Type 0 where
  served : ℕ → ℕ → Answer
  refused : ℕ → ℕ → ℕ → Answer

-- an answer, and what the records and the text memory then hold
pub record Call : Type 0 where
  pub answer : Answer
  pub records : List ℕ
  pub text : List ℕ

abbrev pub call : Answer → List ℕ → List ℕ → Call
call a r t = record { answer = a; records = r; text = t }

-- the longest text
abbrev pub limit : ℕ
limit = refusal.limit

abbrev pub is_mode : ℕ → Bool
is_mode mode = ltb mode 2

abbrev pub in_report : ℕ → Bool
in_report mode = eqb mode 1

-- the items of a source, which is UTF-8
abbrev pub items_in : List ℕ → ℕ → Bool → List Item
items_in source mode skip = kept skip (items (in_report mode) (chars source))

-- 22 where the items or their text do not fit; else they are written, and everything past them stays
unfoldable pub deliver : List Item → List ℕ → List ℕ → Call
deliver is recs text =
    if leb (length is) (length recs / record_words)
    then
    (if leb (length (texts is)) (length text)
    then call (served (length is) (length (texts is))) (written (records 0 0 is) recs) (written (texts is) text)
    else call (refused refusal.too_few (length is) (length (texts is))) recs text)
    else call (refused refusal.too_few (length is) (length (texts is))) recs text

-- 21 where the source is not UTF-8
abbrev pub if_good : Option ℕ → Call → List ℕ → List ℕ → Call
if_good None good recs text = good
if_good (Some p) good recs text = call (refused refusal.not_utf8 p 0) recs text

-- 25, 20, 21, 22 in that order
unfoldable pub read_of : List ℕ → ℕ → Bool → List ℕ → List ℕ → Call
read_of source mode skip recs text =
    if is_mode mode
    then
    (if ltb limit (length source)
    then call (refused refusal.over_long limit 0) recs text
    else if_good (first_bad source) (deliver (items_in source mode skip) recs text) recs text)
    else call (refused refusal.no_such_mode mode 0) recs text
