-- WHATEVER PIECE AND END CALLS GAVE CAN BE STORED, whatever calls were made: they give a beginning of the items of the text (`items_begin`).
use Prim.Native.Nat.{ℕ, ◌+◌, ◌-◌, ◌^◌, ◌≤◌, ◌<◌}
use mathlib.Core.Path.{◌≡◌, refl, sym, ap, subst, ◌∙◌}
use mathlib.Core.Bool.{Bool, true, false}
use mathlib.Core.List.{List, [], ◌∷◌, ◌++◌, map, append-nil}
use lib.ListN.{length, take, drop, length-take}
use lib.Dec.{eqb}
use native.Mathlib.Nat.{min-le_left}
use native.Mathlib.Omega.{arith}
use Rattle.laws.proofs.Choice.{by_bool, if_all}
use Rattle.chars.specs.Encode.{bytes_of}
use Rattle.chars.specs.Utf8.{chars, sequences}
use Rattle.chars.proofs.Good.{Scalars, good_bytes_lem, good_scalars}
use Rattle.refusal.specs.Refusals.{goes_back}
use Rattle.items.specs.Items.{Item, items, kept, ends_before, depth_after, byte_count}
use Rattle.items.specs.Kinds as kind
use Rattle.items.specs.Meaning.{Text, none, source, decoded}
use Rattle.items.specs.Whole.{limit, in_report}
use Rattle.items.proofs.Every.{Every}
use Rattle.items.proofs.Meanings.{Inside}
use Rattle.items.proofs.Order.{InOrder, items_order}
use Rattle.items.proofs.Skipped.{kept_every}
use Rattle.items.proofs.Splits.{length_bytes}
use Rattle.pieces.specs.Expected.{Ending, clean, stop, ending_of, expected_by, expected}
use Rattle.pieces.specs.Given.{Given, copied, copied_words, given, given_all}
use Rattle.pieces.proofs.Clean.{clean_only}
use Rattle.items_coverage.proofs.Stops.{Told, all, up_to, told}
use Rattle.items_numbers.proofs.Calls.{before_every}
use Rattle.pieces_any_calls.specs.After.{Call, Sum, sum_of}
use Rattle.pieces_any_calls.proofs.After.{items_begin}
use Rattle.items_files.specs.Answers.{refused}
use Rattle.items_files.specs.Write.{write_of}
use Rattle.items_files.proofs.Round.{Writable}
use Rattle.items_files.proofs.Stored.{never_back}
use Rattle.items_files_theorems.specs.Plans.{piece_plan}
use Rattle.items_files_theorems.proofs.Chain.{Chain, chain_front, chain_writable}
use Rattle.items_files_theorems.proofs.Items.{Sound, Three, three, each, items_chain, kept_order, before_order, any_start, items_sound}

-- ---- the words of a text that was copied

abbrev cut_of : List ℕ → Item → List ℕ
cut_of bytes i = take (i.end - i.start) (drop i.start bytes)

abbrev text_of : List ℕ → Item → List ℕ
text_of bytes i = copied_words i.kind i.text (length (copied i.kind i.start (cut_of bytes i) i.text))

taken_short : (k : ℕ) (l : List ℕ) → length (take k l) ≤ k
taken_short k l = omega (arith, length-take k l, min-le_left k (length l))

copied_three : (n k s e : ℕ) (raw : List ℕ) (t : Text) → Inside s e t → e ≤ n → length raw ≤ n → Three n (copied_words k t (length (copied k s raw t)))
copied_three n k s e raw none h l m =
    by_bool (eqb k kind.Number) (λ b. rw b (three 2 0 (length raw) (omega arith) (omega arith) m)) (λ b. rw b (three 0 0 0 (omega arith) (omega arith) (omega arith)))
copied_three n k s e raw (source a b) h l m =
    three 2 0 (length (take (b - a) (drop (a - s) raw))) (omega arith) (omega arith) (omega (arith, taken_short (b - a) (drop (a - s) raw), h.1.1))
copied_three n k s e raw (decoded bs) h l m = three 2 0 (length bs) (omega arith) (omega arith) (omega (arith, h))

text_three : (n : ℕ) (bytes : List ℕ) (i : Item) → Sound n i → Three n (text_of bytes i)
text_three n bytes i s =
    copied_three n i.kind i.start i.end (cut_of bytes i) i.text s.placed.text s.placed.ends
    (omega (arith, taken_short (i.end - i.start) (drop i.start bytes), s.placed.ends))

given_each : (bytes : List ℕ) (depth : ℕ) (is : List Item) → map (λ (g : Given). g.words) (given_all bytes depth is) ≡ each (text_of bytes) depth is
unfolding given_all
given_each bytes depth [] = refl
given_each bytes depth (i ∷ is) = ap (λ (l : List (List ℕ)). (given depth (cut_of bytes i) i).words ∷ l) (given_each bytes (depth_after i.kind depth) is)

-- ---- all that can be given

module _ (report skip : Bool) (bytes : List ℕ) where
  chain_of : (n : ℕ) → n ≤ limit → (is : List Item) → Every (Sound n) is → InOrder is → Chain 0 (map (λ (g : Given). g.words) (given_all bytes 0 (kept skip is)))
  chain_of n short is s o =
      rw (given_each bytes 0 (kept skip is))
      (items_chain n (omega arith) (text_of bytes) (text_three n bytes) 0 0 (kept skip is) (any_start (kept skip is)) (kept_every (Sound n) skip is s)
      (kept_order skip is o) (omega arith))

  by_ending : {e : Ending} → ending_of report (length bytes) [] (sequences 0 0 bytes) ≡ e → Told report bytes [] e
      → Chain 0 (map (λ (g : Given). g.words) (expected_by report skip bytes e).items)
  by_ending is (all h) =
      let cs : List ℕ = chars bytes in
      let c = clean_only report bytes is in
      chain_of (byte_count cs) (omega (arith, c.1.0, length_bytes cs, ap length h)) (items report cs) (items_sound report cs (good_scalars bytes c.0))
      (items_order report cs)
  by_ending is (up_to number place q u v g h k) =
      let n : ℕ = byte_count q in
      chain_of n k.short (ends_before n (items report q)) (before_every (Sound n) n (items report q) (items_sound report q k.scalars))
      (before_order n (items report q) (items_order report q))

  expected_chain : Chain 0 (map (λ (g : Given). g.words) (expected report skip bytes).items)
  unfolding expected
  expected_chain = by_ending refl (told report bytes)

-- ---- whatever calls were made

map_append : (xs ys : List Given) → map (λ (g : Given). g.words) (xs ++ ys) ≡ map (λ (g : Given). g.words) xs ++ map (λ (g : Given). g.words) ys
map_append [] ys = refl
map_append (x ∷ xs) ys = ap (λ (l : List (List ℕ)). x.words ∷ l) (map_append xs ys)

module _ (mode : ℕ) (skip : Bool) (is : mode < 2) (calls : List Call) where
  pub piece_plans : Writable (piece_plan mode skip calls)
  piece_plans =
      let h : Sum = sum_of mode skip calls in
      let b = items_begin mode skip is calls [] (λ _. refl) in
      let whole : Chain 0 (map (λ (g : Given). g.words) (h.items ++ b.0))
      = subst (λ (l : List Given). Chain 0 (map (λ (g : Given). g.words) l)) (sym b.1) (expected_chain (in_report mode) skip (h.taken ++ [])) in
      chain_writable (map (λ (g : Given). g.words) h.items)
      (chain_front 0 (map (λ (g : Given). g.words) h.items) (map (λ (g : Given). g.words) b.0) (subst (Chain 0) (map_append h.items b.0) whole))

  -- and the writer never answers 32
  pub piece_never_32 : (out : List ℕ) (k : ℕ) → (write_of (piece_plan mode skip calls) out).answer ≡ refused goes_back k → ⊥
  piece_never_32 out k = never_back (piece_plan mode skip calls) out piece_plans k
