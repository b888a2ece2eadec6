-- What the questions about records mean, of any words. A record is `record_words` words, by 01's "An item".
use Rattle.std.specs.Prelude.{ℕ, zero, suc, ◌+◌, ◌*◌, ◌/◌, Bool, true, ◌&&◌, List, eqb, leb, length, get_or, if◌then◌else◌}
use Rattle.items.specs.Kinds as kind
use Rattle.items.specs.Items.{record_words}

-- words past the last whole record are none
abbrev pub count_of : List ℕ → ℕ
count_of s = length s / record_words

-- the word w of record p
abbrev pub word_at : List ℕ → ℕ → ℕ → ℕ
word_at s p w = get_or s (p * record_words + w) 0

-- ---- the bracket in which a record lies

-- the first word of a record is its kind
abbrev pub kind_at : List ℕ → ℕ → ℕ
kind_at s p = get_or s (p * record_words) 0

-- the last one is how many brackets are open before it
abbrev pub depth_at : List ℕ → ℕ → ℕ
depth_at s p = word_at s p 9

-- record p opens a bracket inside d others
unfoldable pub opens_inside : List ℕ → ℕ → ℕ → Bool
opens_inside s d p = eqb (kind_at s p) kind.OpenParen && eqb (depth_at s p) d

-- the last such record before p
unfoldable pub open_before : List ℕ → ℕ → ℕ → ℕ → ℕ
open_before s d none zero = none
open_before s d none (suc p) = let more = open_before s d none p in if opens_inside s d p then p else more

-- "the opener": with d + 1 brackets open before a record, the last one before it that was opened inside d others
abbrev pub inside : List ℕ → ℕ → ℕ → ℕ → ℕ
inside s none at zero = none
inside s none at (suc d) = open_before s d none at

unfoldable pub opener_of : List ℕ → ℕ → ℕ
opener_of s at = if leb (count_of s) at then count_of s else inside s (count_of s) at (depth_at s at)

-- ---- whether records lie in what is lent: a source of n bytes and a text memory of m

abbrev pub lies : ℕ → ℕ → ℕ → Bool
lies from to n = leb from to && leb to n

-- a text lies nowhere (0), in the source (1) or in the text memory (2)
unfoldable pub text_fits : ℕ → ℕ → ℕ → ℕ → ℕ → Bool
text_fits origin from to n m = if eqb origin 1 then lies from to n else if eqb origin 2 then lies from to m else eqb origin 0

-- extent, place and text
unfoldable pub record_fits : List ℕ → ℕ → ℕ → ℕ → Bool
record_fits s n m p =
    lies (word_at s p 2) (word_at s p 3) n && (lies (word_at s p 4) (word_at s p 5) n && text_fits (word_at s p 6) (word_at s p 7) (word_at s p 8) n m)

-- the first c records
unfoldable pub first_fit : List ℕ → ℕ → ℕ → ℕ → Bool
first_fit s n m zero = true
first_fit s n m (suc c) = record_fits s n m c && first_fit s n m c

abbrev pub records_fit : List ℕ → ℕ → ℕ → Bool
records_fit s n m = first_fit s n m (count_of s)
