-- What is looked at: of an item, of a record as it lies in memory, and of an item as a piece call gives it. A record may have words that
-- nobody looks at here, and as many as `record_words` says.
use Rattle.std.specs.Prelude.{ℕ, zero, suc, Bool, List, [], ◌∷◌, length, get_or, take, drop}
use Rattle.chars.specs.Utf8.{sequences}
use Rattle.items.specs.Items.{Item, items, record_words, byte_count}
use Rattle.pieces.specs.Given.{Given}
use Rattle.pieces.specs.Expected.{Unfinished, nothing, from, unfinished, Ending, clean, stop, ending_of}
use Rattle.items_coverage.specs.Covered.{Seen, seen}

abbrev pub item_seen : Item → Seen
item_seen i = seen i.kind i.start i.end

-- n records in memory, each as its words
unfoldable pub rows_in : ℕ → List ℕ → List (List ℕ)
rows_in zero words = []
rows_in (suc n) words = take record_words words ∷ rows_in n (drop record_words words)

-- 01: "kind, detail, extent start and end, ..". The words that are looked at, counted from 0
abbrev pub kind_word : ℕ
kind_word = 0

abbrev pub start_word : ℕ
start_word = 2

abbrev pub end_word : ℕ
end_word = 3

abbrev pub word : List ℕ → ℕ → ℕ
word row n = get_or row n 0

abbrev pub row_kind : List ℕ → ℕ
row_kind row = word row kind_word

abbrev pub row_seen : List ℕ → Seen
row_seen row = seen (row_kind row) (word row start_word) (word row end_word)

abbrev pub given_kind : Given → ℕ
given_kind g = row_kind g.words

abbrev pub given_seen : Given → Seen
given_seen g = row_seen g.words

-- ---- a text that comes in pieces. 01: a stop "drops the unfinished item"

-- how many bytes of a text come before the item that its end cuts off; all n of them where it cuts none off
abbrev pub before_cut : Unfinished → ℕ → ℕ
before_cut nothing n = n
before_cut (from s) n = s

abbrev pub sure_by : Bool → List ℕ → Ending → ℕ
sure_by report bytes clean = length bytes
sure_by report bytes (stop number place q) = before_cut (unfinished (byte_count q) (items report q)) (byte_count q)

-- how many bytes of a text come before the item that a stop drops; all of them where there is no stop
unfoldable pub sure : Bool → List ℕ → ℕ
sure report bytes = sure_by report bytes (ending_of report (length bytes) [] (sequences 0 0 bytes))
