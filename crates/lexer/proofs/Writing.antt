-- Writing: what the two lent memories hold while the items are read on.
use Rattle.std.proofs.Common.{None}
use Rattle.laws.specs.Lent.{written}
use Rattle.laws.proofs.Lent.{length-written, part_written}
use Rattle.items.specs.Items.{Item, depth_after, depth_past, record_words, record_of, words_of, memory_of, records, texts}
use Rattle.items.specs.declared.Nine.{Nine}
use Rattle.items.proofs.Fit.{records-length}
use Rattle.meaning.specs.Records.{packed}
use Rattle.lexer.specs.Reading.{size_of, next_at, all_from, all_items, found_of, one_found}
use Rattle.lexer.specs.Inner.{bytes_for, free_after, deep_at, needed_of}
use Rattle.lexer.specs.Writing.{Going, Writing, Roomy}
use Rattle.lexer.specs.declared.Spot.{Spot}
use Rattle.lexer.proofs.Turns.{turn_end}
use Rattle.lexer.proofs.Moves.{Moved, Whole}
use Rattle.lexer.proofs.Nexts.{next_at_ends}
use Rattle.lexer.proofs.Memory.{record_packed, bytes_packed, texts_join, texts_more, records_more, past_more}
use Rattle.lexer.proofs.ReadingOn.{going, going_end, going_past, counted, going_on, it, it-packed, it_moved}
use Prim.Native.Nat.{ℕ, ◌+◌, ◌-◌, ◌/◌, ◌≤◌, ◌<◌}
use mathlib.Core.Path.{◌≡◌, refl, sym, ap, ◌∙◌, subst}
use mathlib.Core.List.{List, [], ◌∷◌, ◌++◌, append-nil}
use lib.ListN.{length, length-append, take, drop}
use native.Mathlib.Omega.{arith}
use borrow.Rule.Slice.PartMut.{put_mid}

-- past the last byte there is no further item
pub past_end : (s : List ℕ) (p : Spot) (free : ℕ) → length s ≤ p.at → None ≡ found_of free (next_at s p)
past_end s p free h = sym (ap (found_of free) (next_at_ends s p (turn_end s p h)))

-- what an item's nine words say of its text, for the decoder
pub nine_fits : (s : List ℕ) (free n : ℕ) (r : Nine) (i : Item) → r ≡ packed free i → Whole s i → length (memory_of i.text) ≤ n
    → (r.start < r.end) × (r.end ≤ length s) × (length (bytes_for s r) ≤ n)
nine_fits s free n r i e w h =
    subst (λ (x : Nine). (x.start < x.end) × (x.end ≤ length s) × (length (bytes_for s x) ≤ n)) (sym e)
    (w.some, w.ends, omega (arith, ap length (bytes_packed s free i w)))

module _ (s : List ℕ) (start : Spot) (recs₀ text₀ : List ℕ) (roomy : Roomy s start recs₀ text₀) where
  pub writing : Writing s start recs₀ text₀ recs₀ text₀ start 0 0 0
  unfolding records texts depth_past
  writing = record { done = []; going = going s start; deep = refl; count = refl; rows = refl; bytes = refl }

  -- what is done is a first part of the whole
  front : {p : Spot} {free : ℕ} {done : List Item} → Going s start p free done
      → (length (records 0 0 done) ≤ length recs₀) × (length (texts done) ≤ length text₀)
  front {p} {free} {done} g =
      let rest : List Item = all_from g.left s p in
      let a : length (all_items s start) ≡ length done + length rest = ap length g.items ∙ length-append done rest in
      let b : length (texts (all_items s start)) ≡ length (texts done) + length (texts rest) =
      ap (λ (l : List Item). length (texts l)) g.items ∙ ap length (texts_join done rest) ∙ length-append (texts done) (texts rest) in
      (omega (arith, roomy.rows, records-length 0 0 done), omega (arith, roomy.bytes))

  module _ {recs text : List ℕ} {p : Spot} {free depth w : ℕ} (g : Writing s start recs₀ text₀ recs text p free depth w) where
    pub recs-length : length recs ≡ length recs₀
    recs-length = ap length g.rows ∙ length-written (records 0 0 g.done) recs₀ (front g.going).0

    pub words_fit : w ≤ length recs
    words_fit = omega (arith, g.count, recs-length, (front g.going).0)

    pub text-length : length text ≡ length text₀
    text-length = ap length g.bytes ∙ length-written (texts g.done) text₀ (front g.going).1

    -- a spot further on with the same next item
    pub writing_past : (q : Spot) → next_at s p ≡ next_at s q → size_of s q ≤ size_of s p → p.at ≤ q.at → Writing s start recs₀ text₀ recs text q free depth w
    writing_past q e h k = record {
      done = g.done;
      going = going_past s start p free g.done g.going q e h k;
      deep = g.deep;
      count = g.count;
      rows = g.rows;
      bytes = g.bytes;
    }

    -- what was written, by the words and the bytes that it took
    pub written_all : (n : ℕ) → n ≡ w / record_words → None ≡ found_of free (next_at s p) → record { items = n; text = free } ≡ needed_of (all_items s start)
    written_all n h e = counted s start p free g.done g.going n (omega (arith, g.count, records-length 0 0 g.done)) e

    pub writing_end : None ≡ found_of free (next_at s p) → (recs ≡ written (records 0 0 (all_items s start)) recs₀) × (text ≡ written (texts (all_items s start)) text₀)
    writing_end e =
        let a : all_items s start ≡ g.done = going_end s start p free g.done g.going e in
        (g.rows ∙ ap (λ (l : List Item). written (records 0 0 l) recs₀) (sym a), g.bytes ∙ ap (λ (l : List Item). written (texts l) text₀) (sym a))

    module _ (r : Nine) (q : Spot) (e : one_found r q ≡ found_of free (next_at s p)) where
      abbrev i : Item
      i = it s start p free g.done g.going r q e

      is_packed : r ≡ packed free i
      is_packed = it-packed s start p free g.done g.going r q e

      pub has_moved : Moved s p i q
      has_moved = it_moved s start p free g.done g.going r q e

      -- its record
      abbrev row : List ℕ
      row = words_of (deep_at depth r)

      words : row ≡ record_of free depth i
      words = ap (λ (x : Nine). words_of (deep_at depth x)) is_packed ∙ record_packed free depth i

      -- the depth after it goes by its kind
      deeper : (d : ℕ) → d ≡ depth_after r.kind depth → depth_past 0 (g.done ++ (i ∷ [])) ≡ d
      deeper d h = past_more g.done i depth g.deep ∙ sym (h ∙ ap (λ (x : Nine). depth_after x.kind depth) is_packed)

      more_records : records 0 0 (g.done ++ (i ∷ [])) ≡ records 0 0 g.done ++ row
      more_records = records_more g.done i free depth g.going.bytes g.deep ∙ ap (λ (l : List ℕ). records 0 0 g.done ++ l) (sym words)

      bytes : bytes_for s r ≡ memory_of i.text
      bytes = ap (bytes_for s) is_packed ∙ bytes_packed s free i has_moved.whole

      more_texts : texts (g.done ++ (i ∷ [])) ≡ texts g.done ++ bytes_for s r
      more_texts = texts_more g.done i ∙ ap (λ (l : List ℕ). texts g.done ++ l) (sym bytes)

      pub room : (w + record_words ≤ length recs) × (free + length (bytes_for s r) ≤ length text)
      room =
          let f = front (going_on s start p free g.done g.going r q e) in (
            omega (arith, recs-length, f.0, ap length more_records, length-append (records 0 0 g.done) (row), g.count),
            omega (arith, text-length, f.1, ap length more_texts, length-append (texts g.done) (bytes_for s r), g.going.bytes),
          )

      pub text_fits_lem : (n : ℕ) → length (bytes_for s r) ≤ n → (r.start < r.end) × (r.end ≤ length s) × (length (bytes_for s r) ≤ n)
      text_fits_lem n h = nine_fits s free n r i is_packed has_moved.whole (omega (arith, ap length bytes))

      -- a turn: the record into what is left of the records, the text into what is left of the text memory
      pub writing_on : (f d : ℕ) {x y : List ℕ} → f ≡ free_after free r → d ≡ depth_after r.kind depth → x ≡ written (row) (take (length recs - w) (drop w recs))
          → y ≡ written (bytes_for s r) (take (length text - free) (drop free text))
          → Writing s start recs₀ text₀ (put_mid w (length recs - w) recs x) (put_mid free (length text - free) text y) q f d (w + record_words)
      writing_on f d hf hd hx hy =
          let fits = front g.going in
          let n : Going s start q (free_after free r) (g.done ++ (i ∷ [])) = going_on s start p free g.done g.going r q e in
          record {
            done = g.done ++ (i ∷ []);
            going = subst (λ (k : ℕ). Going s start q k (g.done ++ (i ∷ []))) (sym hf) n;
            deep = deeper d hd;
            count = ap length more_records ∙ length-append (records 0 0 g.done) (row) ∙ ap (λ (k : ℕ). k + record_words) g.count;
            rows = part_written (records 0 0 g.done) (row) recs₀ g.rows g.count fits.0 hx ∙ ap (λ (l : List ℕ). written l recs₀) (sym more_records);
            bytes = part_written (texts g.done) (bytes_for s r) text₀ g.bytes g.going.bytes fits.1 hy ∙ ap (λ (l : List ℕ). written l text₀) (sym more_texts);
          }

      -- a turn whose item has no decoded text
      pub writing_bare : free_after free r ≡ free → bytes_for s r ≡ [] → (d : ℕ) → d ≡ depth_after r.kind depth → {x : List ℕ} → x ≡ written (row) (take (length recs - w) (drop w recs))
          → Writing s start recs₀ text₀ (put_mid w (length recs - w) recs x) text q free d (w + record_words)
      writing_bare hf hb d hd {x} hx =
          let n : Going s start q (free_after free r) (g.done ++ (i ∷ [])) = going_on s start p free g.done g.going r q e in
          let same : texts (g.done ++ (i ∷ [])) ≡ texts g.done =
          more_texts ∙ ap (λ (l : List ℕ). texts g.done ++ l) hb ∙ append-nil (texts g.done) in
          record {
            done = g.done ++ (i ∷ []);
            going = subst (λ (k : ℕ). Going s start q k (g.done ++ (i ∷ []))) hf n;
            deep = deeper d hd;
            count = ap length more_records ∙ length-append (records 0 0 g.done) (row) ∙ ap (λ (k : ℕ). k + record_words) g.count;
            rows = part_written (records 0 0 g.done) (row) recs₀ g.rows g.count (front g.going).0 hx ∙ ap (λ (l : List ℕ). written l recs₀) (sym more_records);
            bytes = g.bytes ∙ ap (λ (l : List ℕ). written l text₀) (sym same);
          }
