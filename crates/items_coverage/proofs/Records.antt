-- Records in memory: the words of some items, read back row by row, are those items' records, and show their kinds and extents.
use Rattle.items.specs.Items.{Item, depth_after, record_words, record_of, memory_of, records}
use Rattle.items.specs.Meaning.{Text, none, source, decoded}
use Rattle.items_coverage.specs.Covered.{Seen}
use Rattle.items_coverage.specs.Records.{item_seen, rows_in, row_seen}
use Prim.Native.Nat.{ℕ, suc, ◌+◌}
use mathlib.Core.Path.{◌≡◌, refl, ap, ◌∙◌}
use mathlib.Core.List.{List, [], ◌∷◌, ◌++◌, map, append_assoc}
use lib.ListN.{length}
use lib.Seq.{take_at, drop_at}

-- the records of some items, one by one; `free` is the first free byte of the text memory, `depth` the depth before the first item
abbrev pub rows_from : ℕ → ℕ → List Item → List (List ℕ)
rows_from free depth [] = []
rows_from free depth (i ∷ is) = record_of free depth i ∷ rows_from (free + length (memory_of i.text)) (depth_after i.kind depth) is

abbrev pub rows_of : List Item → List (List ℕ)
rows_of is = rows_from 0 0 is

row_length : (free depth : ℕ) (i : Item) → length (record_of free depth i) ≡ record_words
row_length free depth i = go i.text
  where
    go : (t : Text) → length (record_of free depth (record { kind = i.kind; detail = i.detail; start = i.start; end = i.end; place = i.place; text = t })) ≡ record_words
    go none = refl
    go (source a b) = refl
    go (decoded bs) = refl

row_first : (n : ℕ) (row words : List ℕ) → length row ≡ record_words → rows_in (suc n) (row ++ words) ≡ row ∷ rows_in n words
unfolding rows_in
row_first n row words h = rw (take_at row words record_words h, drop_at row words record_words h)

back_from : (free depth : ℕ) (is : List Item) (rest : List ℕ) → rows_in (length is) (records free depth is ++ rest) ≡ rows_from free depth is
unfolding rows_in records
back_from free depth [] rest = refl
back_from free depth (i ∷ is) rest =
    let n : ℕ = free + length (memory_of i.text) in
    let d : ℕ = depth_after i.kind depth in
    ap (rows_in (suc (length is))) (append_assoc (record_of free depth i) (records n d is) rest)
    ∙ row_first (length is) (record_of free depth i) (records n d is ++ rest) (row_length free depth i)
    ∙ ap (λ (l : List (List ℕ)). record_of free depth i ∷ l) (back_from n d is rest)

-- from memory, whatever stands there past them
pub rows_back : (is : List Item) (rest : List ℕ) → rows_in (length is) (records 0 0 is ++ rest) ≡ rows_of is
rows_back is rest = back_from 0 0 is rest

seen_from : (free depth : ℕ) (is : List Item) → map row_seen (rows_from free depth is) ≡ map item_seen is
seen_from free depth [] = refl
seen_from free depth (i ∷ is) = ap (λ (l : List Seen). item_seen i ∷ l) (seen_from (free + length (memory_of i.text)) (depth_after i.kind depth) is)

pub rows_seen : (is : List Item) → map row_seen (rows_of is) ≡ map item_seen is
rows_seen is = seen_from 0 0 is
