-- What the whole-text call wrote, where it served: the tenth word of each record is its depth by the kinds of the records before it.
use Prim.Native.Nat.{ℕ, zero, suc, ◌+◌, ◌*◌, ◌≤◌, ◌<◌}
use mathlib.Core.Path.{◌≡◌, refl, sym, ap, ◌∙◌}
use mathlib.Core.Bool.{Bool}
use mathlib.Core.List.{List, [], ◌∷◌}
use lib.ListN.{length, get_or, drop}
use lib.Seq.{get_or-take, get_or-drop}
use native.Mathlib.Omega.{arith}
use Rattle.chars.specs.Utf8.{chars}
use Rattle.chars.proofs.Good.{good_bytes_lem}
use Rattle.items.specs.Meaning.{Text, none, source, decoded}
use Rattle.items.specs.Items.{Item, items, most_open, depth_after, depth_past, record_words, own_words, record_of, memory_of}
use Rattle.items.specs.Whole.{served, Call, in_report, items_in, read_of}
use Rattle.items.proofs.Order.{items_count}
use Rattle.items.proofs.Skipped.{kept_count}
use Rattle.items.proofs.Splits.{length_bytes}
use Rattle.items_coverage.specs.Records.{rows_in, kind_word, word}
use Rattle.items_coverage.proofs.Records.{rows_from, rows_of}
use Rattle.items_coverage.proofs.Calls.{Delivered, leaves, Rows, served_rows}
use Rattle.items_depths.specs.Depths.{DepthsIn}
use Rattle.items_depths.proofs.Counts.{deep, kind_of, all_depths}

-- ---- a record's words

depth_word : (free depth : ℕ) (i : Item) → word (record_of free depth i) own_words ≡ depth
depth_word free depth i = go i.text
  where
    go : (t : Text)
        → word (record_of free depth (record { kind = i.kind; detail = i.detail; start = i.start; end = i.end; place = i.place; text = t })) own_words
        ≡ depth
    go none = refl
    go (source a b) = refl
    go (decoded bs) = refl

abbrev nth_row : List (List ℕ) → ℕ → List ℕ
nth_row rows p = get_or rows p []

row_depth : (free depth : ℕ) (is : List Item) (p : ℕ) → p < length is → word (nth_row (rows_from free depth is) p) own_words ≡ deep depth is p
unfolding depth_past
row_depth free depth [] p h = absurd (omega arith)
row_depth free depth (i ∷ is) zero h = depth_word free depth i
row_depth free depth (i ∷ is) (suc p) h = row_depth (free + length (memory_of i.text)) (depth_after i.kind depth) is p (omega arith)

row_kind : (free depth : ℕ) (is : List Item) (p : ℕ) → p < length is → word (nth_row (rows_from free depth is) p) kind_word ≡ kind_of is p
row_kind free depth [] p h = absurd (omega arith)
row_kind free depth (i ∷ is) zero h = refl
row_kind free depth (i ∷ is) (suc p) h = row_kind (free + length (memory_of i.text)) (depth_after i.kind depth) is p (omega arith)

-- word k of record p lies at p records and k words
row_word : (n : ℕ) (words : List ℕ) (p k : ℕ) → p < n → k < record_words → word (nth_row (rows_in n words) p) k ≡ get_or words (p * record_words + k) 0
unfolding rows_in
row_word zero words p k h l = absurd (omega arith)
row_word (suc n) words zero k h l = get_or-take record_words words k 0 l ∙ ap (λ (m : ℕ). get_or words m 0) (omega arith)
row_word (suc n) words (suc p) k h l =
    row_word n (drop record_words words) p k (omega arith) l
    ∙ get_or-drop record_words words (p * record_words + k) 0
    ∙ ap (λ (m : ℕ). get_or words m 0) (omega arith)

-- ---- what the call wrote

-- WHATEVER `read` SERVED, in both modes, comments kept or skipped: word 10 p + 9 is the opens less the closes that closed one, before record p.
pub read_depths : (bytes : List ℕ) (mode : ℕ) (skip : Bool) (recs text : List ℕ) (n m : ℕ)
    → (read_of bytes mode skip recs text).answer ≡ served n m
    → DepthsIn n (read_of bytes mode skip recs text).records
read_depths bytes mode skip recs text n m e =
    let left : Call = read_of bytes mode skip recs text in
    let d : Delivered bytes mode skip recs text n m left = leaves bytes mode skip recs text n m e in
    let r : Rows bytes mode skip recs text n m = served_rows bytes mode skip recs text n m e in
    let is : List Item = items_in bytes mode skip in
    let low : length is ≤ most_open
    = omega (
      arith,
      kept_count skip (items (in_report mode) (chars bytes)),
      items_count (in_report mode) (chars bytes),
      length_bytes (chars bytes),
      ap length (good_bytes_lem bytes d.good),
      d.short,
    ) in
    let at : (p k : ℕ) → p < length is → k < record_words → get_or left.records (p * record_words + k) 0 ≡ word (nth_row (rows_of is) p) k
    = λ p k h l. sym (row_word n left.records p k (omega (arith, d.count)) l) ∙ ap (λ (rows : List (List ℕ)). word (nth_row rows p) k) r.rows in
    rw d.count
    (all_depths (λ p. get_or left.records (p * record_words + 0) 0) is low (λ p h. at p 0 h (omega arith) ∙ row_kind 0 0 is p h)
    (λ p. get_or left.records (p * record_words + own_words) 0) (λ p h. at p own_words h (omega arith) ∙ row_depth 0 0 is p h))
