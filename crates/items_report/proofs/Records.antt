-- What the whole-text call writes in the two modes (specs/Records), by `read_together`: items that are the same have the same records but
-- for the place, and a comment that is skipped is skipped in both.
use Prim.Native.Nat.{ℕ, ◌+◌}
use mathlib.Core.Path.{◌≡◌, refl, ap, sym, ◌∙◌, subst}
use mathlib.Core.Logic.{◌⊎◌, inl, inr}
use mathlib.Core.Bool.{Bool, true, false, ◌&&◌}
use mathlib.Core.List.{List, [], ◌∷◌, ◌++◌}
use lib.Dec.{eqb, ltb}
use lib.ListN.{length, get_or}
use lib.Seq.{get_or_at}
use Rattle.laws.specs.Quoted.{codes, one_of}
use Rattle.std.specs.Prelude.{if◌then◌else◌}
use borrow.Author.Tests.{eqb-true, eqb-false}
use Rattle.laws.proofs.Choice.{by_bool, and_no}
use Rattle.chars.specs.Encode.{utf8, bytes_of}
use Rattle.chars.specs.Utf8.{chars}
use Rattle.chars.proofs.Bytes.{bytes_append}
use Rattle.chars.proofs.Good.{good_bytes_lem}
use Rattle.items.specs.Items.{Item, items, kept, depth_after, record_of, memory_of, byte_count}
use Rattle.items.specs.Kinds as kind
use Rattle.items.specs.Whole.{served, read_of}
use Rattle.items.proofs.Splits.{length_bytes}
use Rattle.items_coverage.proofs.Calls.{Rows, served_rows}
use Rattle.items_coverage.proofs.Records.{rows_from, rows_of}
use Rattle.items_coverage.specs.Records.{rows_in, row_kind}
use Rattle.items.proofs.Every.{Every}
use Rattle.items_errors.specs.Delimited.{NameError}
use Rattle.items_errors.proofs.NameErrors.{ten, thirteen, read_name_errors, read_never_thirteen}
use Rattle.items_report.specs.Together.{Together, ends, next, number, Same}
use Rattle.items_report.specs.Together as beside
use Rattle.items_report.specs.Records.{SameRow, RowsTogether, NamedTogether}
use Rattle.items_report.specs.Records as rows
use Rattle.items_report.proofs.AsPlain.{at_one_of}
use Rattle.items_report.proofs.Together.{read_together}

-- ---- one record

same_row : (free depth : ℕ) (i j : Item) → Same i j → SameRow (record_of free depth i) (record_of free depth j)
same_row free depth i j (beside.Same.same k d s e t) = rw (k, d, s, e, t) (rows.row (rows.equal _) _ _ _ _ _ _ _ _)
same_row free depth i j (beside.Same.thirteen k l d s e t) = rw (k, l, d, s, e, t) (rows.row rows.thirteen _ _ _ _ _ _ _ _)

same_depth : (depth : ℕ) (i j : Item) → Same i j → depth_after i.kind depth ≡ depth_after j.kind depth
same_depth depth i j (beside.Same.same k d s e t) = rw k
same_depth depth i j (beside.Same.thirteen k l d s e t) = rw (k, l)

same_text : (i j : Item) → Same i j → memory_of i.text ≡ memory_of j.text
same_text i j (beside.Same.same k d s e t) = rw t
same_text i j (beside.Same.thirteen k l d s e t) = rw t

-- the three are ASCII, and stand in the text's bytes as they are
one_byte : (c : ℕ) → one_of (codes ";\"|") c ≡ true → utf8 c ≡ c ∷ []
unfolding utf8
one_byte c h = rw (at_one_of (λ k. ltb k 0x80) true (codes ";\"|") c refl h)

byte_after : (before : List ℕ) (c : ℕ) (after : List ℕ) → one_of (codes ";\"|") c ≡ true
    → get_or (bytes_of (before ++ (c ∷ after))) (byte_count before) 0 ≡ c
unfolding bytes_of
byte_after before c after h =
    let split : bytes_of (before ++ (c ∷ after)) ≡ bytes_of before ++ (c ∷ bytes_of after)
    = bytes_append before (c ∷ after) ∙ ap (λ (l : List ℕ). bytes_of before ++ (l ++ bytes_of after)) (one_byte c h) in
    rw split (get_or_at (bytes_of before) c (bytes_of after) 0 (byte_count before) (length_bytes before))

-- ---- all records

together_rows : (text : List ℕ) (free depth : ℕ) {is js : List Item} → Together text is js
    → RowsTogether SameRow (bytes_of text) (rows_from free depth is) (rows_from free depth js)
together_rows text free depth ends = rows.ends
together_rows text free depth (next {i = i} {j = j} {is = is} {js = js} s t) =
    let more : RowsTogether SameRow (bytes_of text) (rows_from (free + length (memory_of i.text)) (depth_after i.kind depth) is)
    (rows_from (free + length (memory_of j.text)) (depth_after j.kind depth) js)
    = rw (← same_text i j s, ← same_depth depth i j s) (together_rows text (free + length (memory_of i.text)) (depth_after i.kind depth) t) in
    rows.next (same_row free depth i j s) more
together_rows text free depth (number {i = i} k before c after split e o) =
    rows.number {r = record_of free depth i} k (rw (e, split, byte_after before c after o) o)

-- a comment is one in both modes, and a number is none
module _ (text : List ℕ) (skip : Bool) where
  abbrev left_out : ℕ → Bool
  left_out k = skip && eqb k kind.Comment

  same_left : (i j : Item) → Same i j → left_out i.kind ≡ left_out j.kind
  same_left i j (beside.Same.same k d s e x) = ap left_out k
  same_left i j (beside.Same.thirteen k l d s e x) = ap left_out k ∙ sym (ap left_out l)

  number_stays : (k : ℕ) → (k ≡ kind.Number) ⊎ (k ≡ kind.first_error + kind.ZeroDenominator) → left_out k ≡ false
  number_stays k (inl e) = ap left_out e ∙ and_no skip
  number_stays k (inr e) = ap left_out e ∙ and_no skip

  kept_next : (b : Bool) {i j : Item} {is js : List Item} → Same i j → Together text is js
      → Together text (if b then is else i ∷ is) (if b then js else j ∷ js)
  kept_next true s t = t
  kept_next false s t = next s t

  together_kept : {is js : List Item} → Together text is js → Together text (kept skip is) (kept skip js)
  unfolding kept
  together_kept ends = ends
  together_kept (next {i = i} {j = j} {is = is} {js = js} s t) =
      subst (λ (b : Bool). Together text (kept skip (i ∷ is)) (if b then kept skip js else j ∷ kept skip js)) (same_left i j s)
      (kept_next (left_out i.kind) s (together_kept t))
  together_kept (number {i = i} {is = is} {js = js} k before c after split e o) =
      subst (λ (b : Bool). Together text (if b then kept skip is else i ∷ kept skip is) (kept skip js)) (sym (number_stays i.kind k))
      (number k before c after split e o)

-- ---- what the calls wrote

-- IN REPORT MODE AND IN PLAIN MODE `read` WRITES THE SAME RECORDS, up to the first number, or error 8, that ends before one of the three
pub records_together : (source : List ℕ) (skip : Bool) (recs text recs' text' : List ℕ) (n m n' m' : ℕ)
    → (read_of source 1 skip recs text).answer ≡ served n m
    → (read_of source 0 skip recs' text').answer ≡ served n' m'
    → RowsTogether SameRow source (rows_in n (read_of source 1 skip recs text).records) (rows_in n' (read_of source 0 skip recs' text').records)
records_together source skip recs text recs' text' n m n' m' e f =
    let r : Rows source 1 skip recs text n m = served_rows source 1 skip recs text n m e in
    let p : Rows source 0 skip recs' text' n' m' = served_rows source 0 skip recs' text' n' m' f in
    let rs : List (List ℕ) = rows_of (kept skip (items true (chars source))) in
    let ps : List (List ℕ) = rows_of (kept skip (items false (chars source))) in
    let both : RowsTogether SameRow (bytes_of (chars source)) rs ps
    = together_rows (chars source) 0 0 (together_kept (chars source) skip (read_together (chars source))) in
    rw (r.rows, p.rows) (subst (λ (s : List ℕ). RowsTogether SameRow s rs ps) (good_bytes_lem source r.good) both)

-- ---- 13 for 10

-- what holds of the records of each mode, and of two side by side
module _ (R : List ℕ → List ℕ → Type 0) (P Q : List ℕ → Type 0) (source : List ℕ) (both : (r p : List ℕ) → SameRow r p → P r → Q p → R r p) where
  rows_with : {rs ps : List (List ℕ)} → RowsTogether SameRow source rs ps → Every P rs → Every Q ps → RowsTogether R source rs ps
  rows_with rows.ends f g = rows.ends
  rows_with (rows.next {r = r} {p = p} s t) f g = rows.next (both r p s f.0 g.0) (rows_with t f.1 g.1)
  rows_with (rows.number k o) f g = rows.number k o

named_row : (source r p : List ℕ) → SameRow r p → NameError source r → (row_kind p ≡ thirteen → ⊥) → NamedTogether source r p
named_row source r p (rows.row rows.thirteen d s e a b from to rest) f g = rows.delimited refl refl (f.thirteen refl)
named_row source r p (rows.row (rows.equal k) d s e a b from to rest) f g = by_bool (eqb k ten)
    (λ h. let z : k ≡ ten = eqb-true k ten h in let w = f.ten z in rows.undelimited z z w.0 w.1)
    (λ h. rows.neither (λ z. eqb-false k ten h z) g (λ z. eqb-false k ten h z))

-- IN REPORT MODE ERROR 13 STANDS EXACTLY WHERE PLAIN MODE HAS 10 AND A DELIMITER STANDS after the name's first character; where none does, 10
pub thirteen_for_ten : (source : List ℕ) (skip : Bool) (recs text recs' text' : List ℕ) (n m n' m' : ℕ)
    → (read_of source 1 skip recs text).answer ≡ served n m
    → (read_of source 0 skip recs' text').answer ≡ served n' m'
    → RowsTogether (NamedTogether source) source (rows_in n (read_of source 1 skip recs text).records) (rows_in n' (read_of source 0 skip recs' text').records)
thirteen_for_ten source skip recs text recs' text' n m n' m' e f =
    rows_with (NamedTogether source) (NameError source) (λ (row : List ℕ). row_kind row ≡ thirteen → ⊥) source (named_row source)
    (records_together source skip recs text recs' text' n m n' m' e f) (read_name_errors source skip recs text n m e)
    (read_never_thirteen source skip recs' text' n' m' f)
