-- Many fields in one call, all of it: what it answers and what the three lent memories hold afterwards. Document 02, (xii).
use Rattle.std.specs.Prelude.{ℕ, ◌+◌, ◌-◌, ◌/◌, Bool, true, false, List, [], ◌∷◌, ◌++◌, length, take, drop, leb, ltb, if◌then◌else◌, None, Option, Some}
use Rattle.laws.specs.Lent.{written}
use Rattle.refusal.specs.Refusals as refusal
use Rattle.chars.specs.Utf8.{first_bad}
use Rattle.items.specs.Items.{Item, record_words, records, texts}
use Rattle.items.specs.Whole.{Answer, served, refused, limit, is_mode, items_in}

-- ---- the parts

-- Part i of a source goes from the end before it to its own end, the first from the place `from`; bytes past the last end are in no part
unfoldable pub parts : List ℕ → ℕ → List ℕ → List (List ℕ)
parts source from [] = []
parts source from (e ∷ ends) = take (e - from) (drop from source) ∷ parts source e ends

-- the ends neither go back nor pass n
unfoldable pub is_in_order : ℕ → ℕ → List ℕ → Bool
is_in_order n from [] = true
is_in_order n from (e ∷ ends) = let more = is_in_order n e ends in if leb from e then (if leb e n then more else false) else false

-- ---- what a part gives

-- its mark, its place and its items
pub record Field : Type 0 where
  pub mark : ℕ
  pub place : ℕ
  pub items : List Item

abbrev pub field : ℕ → ℕ → List Item → Field
field m p is = record { mark = m; place = p; items = is }

-- "A part that isn't UTF-8 gets mark 21, its place and no records [..]; other parts have 0 and 0"
abbrev pub field_by : Option ℕ → List Item → Field
field_by None is = field 0 0 is
field_by (Some p) is = field refusal.not_utf8 p []

-- the items of a part are those of the whole-text call for that part alone
unfoldable pub field_of : ℕ → Bool → List ℕ → Field
field_of mode skip part = field_by (first_bad part) (items_in part mode skip)

unfoldable pub fields_on : ℕ → Bool → List (List ℕ) → List Field
fields_on mode skip [] = []
fields_on mode skip (p ∷ ps) = field_of mode skip p ∷ fields_on mode skip ps

-- ---- what is written. Each part's records start with text memory place 0, "text memory places from the part's first text byte", and with
-- depth 0, as those of a text of its own

-- how many words a row has
abbrev pub row_words : ℕ
row_words = 4

unfoldable pub item_count : List Field → ℕ
item_count [] = 0
item_count (f ∷ fs) = length f.items + item_count fs

unfoldable pub records_in : List Field → List ℕ
records_in [] = []
records_in (f ∷ fs) = records 0 0 f.items ++ records_in fs

unfoldable pub texts_in : List Field → List ℕ
texts_in [] = []
texts_in (f ∷ fs) = texts f.items ++ texts_in fs

-- a part's row: its first record, its first text byte, its mark and its place
abbrev pub row_of : ℕ → ℕ → Field → List ℕ
row_of r t f = r ∷ t ∷ f.mark ∷ f.place ∷ []

unfoldable pub rows_from : ℕ → ℕ → List Field → List ℕ
rows_from r t [] = []
rows_from r t (f ∷ fs) = row_of r t f ++ rows_from (r + length f.items) (t + length (texts f.items)) fs

-- ---- the call

-- an answer, and what the rows, the records and the text memory then hold
pub record FieldsCall : Type 0 where
  pub answer : Answer
  pub rows : List ℕ
  pub records : List ℕ
  pub text : List ℕ

abbrev pub fields_call : Answer → List ℕ → List ℕ → List ℕ → FieldsCall
fields_call a w r t = record { answer = a; rows = w; records = r; text = t }

-- 22 where the rows, the items of all parts or their text do not fit; else they are written, and everything past them stays
unfoldable pub deliver_fields : List Field → List ℕ → List ℕ → List ℕ → FieldsCall
deliver_fields fs rows recs text =
    let short = fields_call (refused refusal.too_few (item_count fs) (length (texts_in fs))) rows recs text in
    if leb (length fs) (length rows / row_words)
    then
    (if leb (item_count fs) (length recs / record_words)
    then
    (if leb (length (texts_in fs)) (length text)
    then
    fields_call (served (item_count fs) (length (texts_in fs))) (written (rows_from 0 0 fs) rows) (written (records_in fs) recs) (written (texts_in fs) text)
    else short)
    else short)
    else short

abbrev pub fields_in : List ℕ → List ℕ → ℕ → Bool → List Field
fields_in source ends mode skip = fields_on mode skip (parts source 0 ends)

-- 25, 38, 20, 22 in that order
unfoldable pub fields_of : List ℕ → List ℕ → ℕ → Bool → List ℕ → List ℕ → List ℕ → FieldsCall
fields_of source ends mode skip rows recs text =
    if is_mode mode
    then
    (if is_in_order (length source) 0 ends
    then
    (if ltb limit (length source)
    then fields_call (refused refusal.over_long limit 0) rows recs text
    else deliver_fields (fields_in source ends mode skip) rows recs text)
    else fields_call (refused refusal.bad_ends 0 0) rows recs text)
    else fields_call (refused refusal.no_such_mode mode 0) rows recs text
