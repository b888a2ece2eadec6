-- WHATEVER CALLS FOR THE READER'S NEXT ITEM GAVE CAN BE STORED: with memory for an item they give the records of the text (`calls_read_all`).
use Rattle.std.proofs.Common.{None}
use Prim.Native.Nat.{ℕ, zero, suc, ◌+◌, ◌-◌, ◌^◌, ◌≤◌, ◌<◌}
use mathlib.Core.Path.{◌≡◌, refl, sym, ap, subst, ◌∙◌}
use mathlib.Core.Bool.{Bool, true, false}
use mathlib.Core.List.{List, [], ◌∷◌, ◌++◌}
use lib.ListN.{length, take}
use lib.Dec.{eqb}
use native.Mathlib.Omega.{arith}
use Rattle.laws.proofs.Choice.{by_bool}
use Rattle.chars.specs.Utf8.{chars, first_bad}
use Rattle.chars.proofs.Good.{good_bytes_lem, good_scalars}
use Rattle.refusal.specs.Refusals as refusal
use Rattle.items.specs.Items.{Item, items, kept, depth_after, byte_count, record_words, text_words, record_of}
use Rattle.items.specs.Meaning.{Text, none, source, decoded}
use Rattle.items.specs.Whole.{limit, in_report, items_in}
use Rattle.items.proofs.Meanings.{Inside}
use Rattle.items.proofs.Order.{items_order}
use Rattle.items.proofs.Skipped.{kept_every}
use Rattle.items.proofs.Splits.{length_bytes}
use Rattle.lexer.specs.Opening.{opening}
use Rattle.lexer.specs.Reading.{size_of}
use Rattle.lexer.specs.ReadOn.{record_each}
use Rattle.reader_exports.specs.Words.{reader_words}
use Rattle.reader_exports.specs.Reader.{Memory, memory, Left, next_left, open_left}
use Rattle.reader_exports_theorems.specs.Calls.{followed, calls}
use Rattle.reader_exports_theorems.proofs.Calls.{calls_read_all}
use Rattle.items_files.specs.Answers.{refused}
use Rattle.items_files.specs.Write.{write_of}
use Rattle.items_files.proofs.Round.{Writable}
use Rattle.items_files.proofs.Stored.{never_back}
use Rattle.items_files_theorems.specs.Plans.{reader_plan}
use Rattle.items_files_theorems.proofs.Chain.{Chain, chain_front, chain_writable}
use Rattle.items_files_theorems.proofs.Items.{Sound, Three, three, each, items_chain, kept_order, any_start, items_sound}

-- ---- the words of a text that starts at 0 of the text memory

abbrev text_of : Item → List ℕ
text_of i = text_words 0 i.text

words_three : (n s e : ℕ) (t : Text) → Inside s e t → e ≤ n → Three n (text_words 0 t)
words_three n s e none h l = three 0 0 0 (omega arith) (omega arith) (omega arith)
words_three n s e (source a b) h l = three 1 a b (omega arith) h.1.0 (omega (arith, h.1.1))
words_three n s e (decoded bs) h l = three 2 0 (0 + length bs) (omega arith) (omega arith) (omega (arith, h))

each_record : (depth : ℕ) (is : List Item) → record_each depth is ≡ each text_of depth is
unfolding record_each
each_record depth [] = refl
each_record depth (i ∷ is) = ap (λ (l : List (List ℕ)). record_of 0 depth i ∷ l) (each_record (depth_after i.kind depth) is)

-- ---- fewer calls give a beginning

calls_begin : (n k : ℕ) (s : List ℕ) (m : Memory) → (later : List (List ℕ)) × (calls n s m ++ later ≡ calls (n + k) s m)
unfolding calls
calls_begin zero k s m = (calls k s m, ap (λ (x : ℕ). calls x s m) (let e : k ≡ zero + k = omega arith in e))
calls_begin (suc n) k s m =
    let l : Left = next_left s m in
    let rest = calls_begin n k s l.memory in
    let e : suc (n + k) ≡ suc n + k = omega arith in
    by_bool (eqb l.answer refusal.item)
    (λ b. (rest.0, rw (← e, b) (ap (λ (x : List (List ℕ)). take record_words l.memory.item ∷ x) rest.1)))
    (λ b. ([], rw (← e, b)))

module _ (s : List ℕ) (short : length s ≤ limit) (mode : ℕ) (skip : Bool) (is : mode < 2) (good : first_bad s ≡ None) where
  text_chain : Chain 0 (record_each 0 (items_in s mode skip))
  text_chain =
      let cs : List ℕ = chars s in
      let n : ℕ = byte_count cs in
      let all : List Item = items (in_report mode) cs in
      let long : n < 2 ^ 32 = omega (arith, length_bytes cs, ap length (good_bytes_lem s good)) in
      rw (each_record 0 (kept skip all))
      (items_chain n long text_of (λ i x. words_three n i.start i.end i.text x.placed.text x.placed.ends) 0 0 (kept skip all) (any_start (kept skip all))
      (kept_every (Sound n) skip all (items_sound (in_report mode) cs (good_scalars s good))) (kept_order skip all (items_order (in_report mode) cs)) (omega arith))

  module _ (words first text item values : List ℕ) (seven : length words ≡ reader_words) (ample : length s ≤ length text) (one : record_words ≤ length item)
      (two : 2 ≤ length values) where
    abbrev lent : Memory
    lent = memory (open_left s mode skip words first).words text item values

    -- as many calls as read the text to its end, or fewer
    abbrev most : ℕ
    most = suc (size_of s (opening s (in_report mode) skip).spot)

    pub reader_plans : (n : ℕ) → n ≤ suc (size_of s (opening s (in_report mode) skip).spot)
        → Writable (reader_plan n s (memory (open_left s mode skip words first).words text item values))
    reader_plans n few =
        let k : ℕ = most - n in
        let e : n + k ≡ most = omega arith in
        let b = calls_begin n k s lent in
        let all : calls (n + k) s lent ≡ record_each 0 (items_in s mode skip)
        = ap (λ (x : ℕ). calls x s lent) e ∙ calls_read_all s short mode skip words first is good seven text item values ample one two in
        chain_writable (calls n s lent) (chain_front 0 (calls n s lent) b.0 (subst (Chain 0) (sym (b.1 ∙ all)) text_chain))

    -- and the writer never answers 32
    pub reader_never_32 : (n : ℕ) → n ≤ suc (size_of s (opening s (in_report mode) skip).spot) → (out : List ℕ) (k : ℕ)
        → (write_of (reader_plan n s (memory (open_left s mode skip words first).words text item values)) out).answer ≡ refused refusal.goes_back k → ⊥
    reader_never_32 n few out k = never_back (reader_plan n s lent) out (reader_plans n few) k
