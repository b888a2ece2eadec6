-- To nested lists the rows of items without errors are their records: they ask for kinds and details alone.
use Prim.Native.Nat.{ℕ, zero, suc, ◌+◌, ◌-◌, ◌*◌, ◌^◌, ◌<◌}
use mathlib.Core.Path.{◌≡◌, refl, sym, ap, ◌∙◌}
use mathlib.Core.Bool.{cond, ◌&&◌}
use mathlib.Core.List.{List, [], ◌∷◌, ◌++◌}
use lib.ListN.{length, get_or}
use lib.Dec.{leb}
use native.Mathlib.Omega.{arith}
use Rattle.refusal.specs.Refusals as refusal
use Rattle.items.specs.Items.{Item, depth_after, memory_of, record_words, record_of, records, text_words}
use Rattle.items.specs.Meaning.{Text, none, source, decoded}
use Rattle.items.proofs.Every.{Every}
use Rattle.items.proofs.Fit.{records-length}
use Rattle.nested.specs.Items.{count_of, class_of, class_at, items_of, items_from}
use Rattle.nested.specs.Reader.{Result, Nodes, No, run, start}
use Rattle.nested.specs.Lent.{outcome, spliced, words_of, given, nested_of, Built, Refused}
use Rattle.findings_rows.specs.Rows.{rows_from}
use Rattle.findings_theorems.proofs.Unmended.{Fine}
use Rattle.findings_theorems.proofs.Words as words
use Rattle.findings_theorems.proofs.Words.{word_of, Ten, word_at, record_rows, records-flat, row_fine}
use Rattle.findings_theorems.proofs.Numbers.{same_items}
use Rattle.findings_theorems.proofs.Clean.{laid_words, count_is, word_is}

record_ten : (free d : ℕ) (i : Item) → Ten (record_of free d i)
record_ten free d i = go i.text
  where
    go : (t : Text) → length (i.kind ∷ i.detail ∷ i.start ∷ i.end ∷ i.place.from ∷ i.place.to ∷ (text_words free t ++ (d ∷ []))) ≡ record_words
    go none = refl
    go (source a b) = refl
    go (decoded bs) = refl

records_ten : (free d : ℕ) (is : List Item) → Every Ten (record_rows free d is)
unfolding record_rows
records_ten free d [] = tt
records_ten free d (i ∷ is) = (record_ten free d i, records_ten (free + length (memory_of i.text)) (depth_after i.kind d) is)

records_count : (free d : ℕ) (is : List Item) → length (record_rows free d is) ≡ length is
unfolding record_rows
records_count free d [] = refl
records_count free d (i ∷ is) = ap suc (records_count (free + length (memory_of i.text)) (depth_after i.kind d) is)

-- the kind and the detail
module _ where
  same_kind : (d free e : ℕ) (is : List Item) → Every Fine is → (p : ℕ) → p < length is
      → get_or (words.row_at (rows_from d is) p) 0 0 ≡ get_or (words.row_at (record_rows free e is) p) 0 0
  unfolding rows_from record_rows
  same_kind d free e [] h p l = absurd (omega arith)
  same_kind d free e (i ∷ is) h zero l = ap (λ (r : List ℕ). get_or r 0 0) (row_fine d i h.0)
  same_kind d free e (i ∷ is) h (suc p) l = same_kind (depth_after i.kind d) (free + length (memory_of i.text)) (depth_after i.kind e) is h.1 p (omega arith)

  same_detail : (d free e : ℕ) (is : List Item) → Every Fine is → (p : ℕ) → p < length is
      → get_or (words.row_at (rows_from d is) p) 1 0 ≡ get_or (words.row_at (record_rows free e is) p) 1 0
  unfolding rows_from record_rows
  same_detail d free e [] h p l = absurd (omega arith)
  same_detail d free e (i ∷ is) h zero l = ap (λ (r : List ℕ). get_or r 1 0) (row_fine d i h.0)
  same_detail d free e (i ∷ is) h (suc p) l = same_detail (depth_after i.kind d) (free + length (memory_of i.text)) (depth_after i.kind e) is h.1 p (omega arith)

module _ (is : List Item) (fine : Every Fine is) where
  abbrev recs : List ℕ
  recs = records 0 0 is

  record_word : (p k : ℕ) → p < length is → k < record_words → word_of recs p k ≡ get_or (words.row_at (record_rows 0 0 is) p) k 0
  record_word p k h l =
      ap (λ (w : List ℕ). word_of w p k) (sym (records-flat 0 0 is)) ∙ word_at (record_rows 0 0 is) (records_ten 0 0 is) p k (omega (arith, records_count 0 0 is)) l

  same_class : (q : ℕ) → q < length is → class_at (laid_words is) q ≡ class_at recs q
  same_class q h =
      let place : q * record_words ≡ q * record_words + 0 = omega arith in
      let k : get_or (laid_words is) (q * record_words) 0 ≡ get_or recs (q * record_words) 0
      = ap (λ (n : ℕ). get_or (laid_words is) n 0) place ∙ word_is is q 0 h (omega arith) ∙ same_kind 0 0 0 is fine q h
      ∙ sym (ap (λ (n : ℕ). get_or recs n 0) place ∙ record_word q 0 h (omega arith)) in
      let d : get_or (laid_words is) (q * record_words + 1) 0 ≡ get_or recs (q * record_words + 1) 0
      = word_is is q 1 h (omega arith) ∙ same_detail 0 0 0 is fine q h ∙ sym (record_word q 1 h (omega arith)) in
      ap (λ (n : ℕ). class_of n (get_or (laid_words is) (q * record_words + 1) 0)) k ∙ ap (class_of (get_or recs (q * record_words) 0)) d

  same_count : count_of (laid_words is) ≡ count_of recs
  same_count = count_is is ∙ omega (arith, records-length 0 0 is)

  all_items_lem : items_of (laid_words is) ≡ items_of recs
  all_items_lem =
      ap (λ (n : ℕ). items_from (n - 0) 0 (laid_words is)) same_count
      ∙ same_items (laid_words is) recs (count_of recs - 0) 0 (λ q l. same_class q (omega (arith, same_count, count_is is)))

  same_run : run (count_of (laid_words is)) start (items_of (laid_words is)) ≡ run (count_of recs) start (items_of recs)
  same_run = ap (λ (n : ℕ). run n start (items_of (laid_words is))) same_count ∙ ap (run (count_of recs) start) all_items_lem

  given_same : (r : Result) (s t : List ℕ) → count_of s ≡ count_of t → (given r s []).answer ≡ (given r t []).answer
  given_same (No n p) s t e = refl
  given_same (Nodes ns) s t e =
      ap (λ (k : ℕ). (cond (leb (length ns * 3) 0 && leb k (2 ^ 32)) (outcome (Built (length ns)) (spliced 0 (words_of ns) [])) (outcome (Refused refusal.few_nodes 0) [])).answer) e

  pub same_nested : (nested_of (laid_words is) []).answer ≡ (nested_of recs []).answer
  unfolding nested_of
  same_nested =
      given_same (run (count_of (laid_words is)) start (items_of (laid_words is))) (laid_words is) recs same_count
      ∙ ap (λ (r : Result). (given r recs []).answer) same_run
