-- The rows of a plan, as `findings_rows` writes them: ten words each. Kind; the detail, which nothing here asks for; the extent; the place;
-- the error's number, 0 of none, and its detail; a word of nothing; the depth.
use Rattle.std.specs.Prelude.{ℕ, zero, suc, ◌+◌, ◌*◌, ◌-◌, Bool, List, leb, ltb, get_or, take, drop, if◌then◌else◌}
use Rattle.items.specs.Kinds as kind
use Rattle.items.specs.Items.{record_words, depth_after}
use Rattle.items.specs.Whole.{limit}
use Rattle.nested.specs.Items.{count_of}
use Rattle.findings.specs.declared.Row.{Row}

-- the byte at a place; 0 past the end
abbrev pub byte_at : List ℕ → ℕ → ℕ
byte_at source i = get_or source i 0

-- the bytes from a place to a place
abbrev pub part : List ℕ → ℕ → ℕ → List ℕ
part source a b = take (b - a) (drop a source)

-- a word of a row, past its first
abbrev pub word : List ℕ → ℕ → ℕ → ℕ
word rows p k = get_or rows (p * record_words + k) 0

-- what stands past the last row: a row of no kind
abbrev pub no_row : Row
no_row = record { kind = kind.first_error; start = 0; end = 0; from = 0; to = 0; error = 0; about = 0; depth = 0 }

abbrev pub whole_row : List ℕ → ℕ → Row
whole_row rows p = record {
  kind = get_or rows (p * record_words) 0;
  start = word rows p 2;
  end = word rows p 3;
  from = word rows p 4;
  to = word rows p 5;
  error = word rows p 6;
  about = word rows p 7;
  depth = word rows p 9;
}

unfoldable pub row_at : List ℕ → ℕ → Row
row_at rows p = if ltb p (count_of rows) then whole_row rows p else no_row

abbrev pub last_row : List ℕ → Row
last_row rows = row_at rows (count_of rows - 1)

-- how many brackets are open before a row; before none of them, at the end, as many as after the last
unfoldable pub depth_at : List ℕ → ℕ → ℕ
depth_at rows p = if ltb p (count_of rows) then (row_at rows p).depth else depth_after (last_row rows).kind (last_row rows).depth

-- n bytes on from a place; no row starts so far on that a word does not hold that
abbrev pub bytes_on : ℕ → ℕ → ℕ
bytes_on n a = if leb (a + n) limit then a + n else a

-- ---- searches

-- the last of the numbers below n that passes the test f; 0 if none does
unfoldable pub last_before : (ℕ → Bool) → ℕ → ℕ
last_before f zero = 0
last_before f (suc n) = let more = last_before f n in if f n then n else more

-- the first of the n numbers from i on that passes the test f; the number past them if none does
unfoldable pub first_from : (ℕ → Bool) → ℕ → ℕ → ℕ
first_from f zero i = i
first_from f (suc n) i = let more = first_from f n (i + 1) in if f i then i else more

-- the first row that passes the test f; the number of rows if none does
abbrev pub first_row : (ℕ → Bool) → List ℕ → ℕ
first_row f rows = first_from f (count_of rows) 0
