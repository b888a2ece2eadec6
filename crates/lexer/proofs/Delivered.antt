-- What is delivered, by the tests of the code; and the reader's replies.
use Rattle.std.proofs.Common.{None}
use Rattle.refusal.specs.Refusals as refusal
use Rattle.laws.specs.Lent.{written}
use Rattle.items.specs.Items.{Item, depth_after, record_words, words_of, memory_of, records, texts}
use Rattle.items.specs.Whole.{call, served, refused, limit, deliver}
use Rattle.items.specs.declared.Nine.{Nine}
use Rattle.meaning.specs.Records.{packed}
use Rattle.lexer.specs.Reading.{Turn, gives, ends, next_at, found_of, one_found}
use Rattle.lexer.specs.Answers.{item, finished, refuses, replied, position_at, give_of, next_of}
use Rattle.lexer.specs.Inner.{needed_of, bytes_for, free_after, deep_at, Few}
use Rattle.lexer.specs.declared.Spot.{Spot}
use Rattle.lexer.specs.declared.Position.{Position}
use Rattle.lexer.specs.declared.Needed.{Needed}
use Rattle.lexer.proofs.Moves.{Whole}
use Rattle.lexer.proofs.Nexts.{found_gives, found_ends, next_moved}
use Rattle.lexer.proofs.Memory.{record_packed, free_packed, bytes_packed}
use Rattle.lexer.proofs.Writing.{nine_fits}
use Prim.Native.Nat.{ℕ, ◌+◌, ◌*◌, ◌/◌, ◌≤◌, ◌<◌}
use mathlib.Core.Path.{◌≡◌, sym, ap, ◌∙◌}
use mathlib.Core.List.{List}
use lib.ListN.{length}
use native.Mathlib.Omega.{arith}
use borrow.Author.Tests.{le-leb, lt-leb, lt-ltb, le-ltb}

-- ---- the whole-text call

module _ (is : List Item) (recs text : List ℕ) (n : Needed) (e : n ≡ needed_of is) where
  counts : (n.items ≡ length is) × (n.text ≡ length (texts is))
  counts = (ap (λ (x : Needed). x.items) e, ap (λ (x : Needed). x.text) e)

  pub few_records : length recs / record_words < n.items → call (refused refusal.too_few n.items n.text) recs text ≡ deliver is recs text
  unfolding deliver
  few_records h =
      let a : length recs / record_words < length is = omega (arith, counts) in
      rw (counts.0, counts.1, lt-leb (length is) (length recs / record_words) a)

  module _ (h : n.items ≤ length recs / record_words) where
    fits : length is ≤ length recs / record_words
    fits = omega (arith, counts)

    pub little_text_holds : length text < n.text → call (refused refusal.too_few n.items n.text) recs text ≡ deliver is recs text
    unfolding deliver
    little_text_holds k =
        let b : length text < length (texts is) = omega (arith, counts) in
        rw (counts.0, counts.1, le-leb (length is) (length recs / record_words) fits, lt-leb (length (texts is)) (length text) b)

    module _ (k : n.text ≤ length text) where
      fits_text : length (texts is) ≤ length text
      fits_text = omega (arith, counts)

      pub room : (record_words * length is ≤ length recs) × (length (texts is) ≤ length text)
      room = let f : length is ≤ length recs / record_words = fits in (omega arith, fits_text)

      pub delivered : {r t : List ℕ} → r ≡ written (records 0 0 is) recs → t ≡ written (texts is) text → call (served n.items n.text) r t ≡ deliver is recs text
      unfolding deliver
      delivered a b =
          rw (counts.0, counts.1, le-leb (length is) (length recs / record_words) fits, le-leb (length (texts is)) (length text) fits_text, a, b)

  -- where there is a record and a byte of text memory for each byte of the source
  pub ample : (s : List ℕ) → Few s is → length s ≤ length recs / record_words → length s ≤ length text → {r t : List ℕ} → r ≡ written (records 0 0 is) recs
      → t ≡ written (texts is) text → call (served n.items n.text) r t ≡ deliver is recs text
  ample s few h k a b = delivered (omega (arith, counts, few.0)) (omega (arith, counts, few.1)) a b

-- ---- the reader

module _ (s : List ℕ) (p : Position) (text : List ℕ) where
  pub reply_long : limit < length s → replied (refuses refusal.over_long limit 0) text ≡ next_of s p text
  unfolding next_of
  reply_long h = rw (lt-ltb limit (length s) h)

  module _ (short : length s ≤ limit) where
    reply_is : (t : Turn) → next_at s p.spot ≡ t → next_of s p text ≡ give_of p.depth t text
    unfolding next_of
    reply_is t e = rw (le-ltb limit (length s) short) (ap (λ (x : Turn). give_of p.depth x text) e)

    pub reply_end : None ≡ found_of 0 (next_at s p.spot) → replied finished text ≡ next_of s p text
    unfolding give_of
    reply_end e = sym (reply_is ends (found_ends 0 (next_at s p.spot) e))

    module _ (r : Nine) (q : Spot) (e : one_found r q ≡ found_of 0 (next_at s p.spot)) where
      abbrev i : Item
      i = (found_gives 0 (next_at s p.spot) r q e).0

      given : next_at s p.spot ≡ gives i q
      given = (found_gives 0 (next_at s p.spot) r q e).1.0

      is_packed : r ≡ packed 0 i
      is_packed = (found_gives 0 (next_at s p.spot) r q e).1.1

      whole : Whole s i
      whole = (next_moved s p.spot q i given).whole

      pub needs : free_after 0 r ≡ length (memory_of i.text)
      needs = let z : free_after 0 r ≡ 0 + length (memory_of i.text) = ap (free_after 0) is_packed ∙ free_packed 0 i in omega arith

      pub reply_room : (n : ℕ) → n ≡ free_after 0 r → length text < n → replied (refuses refusal.too_few 1 n) text ≡ next_of s p text
      unfolding give_of
      reply_room n h k =
          let a : n ≡ length (memory_of i.text) = h ∙ needs in
          let b : length text < length (memory_of i.text) = omega arith in
          ap (λ (x : ℕ). replied (refuses refusal.too_few 1 x) text) a ∙ sym (reply_is (gives i q) given ∙ rw (lt-leb (length (memory_of i.text)) (length text) b))

      module _ (n : ℕ) (h : n ≡ free_after 0 r) (k : n ≤ length text) where
        bytes : bytes_for s r ≡ memory_of i.text
        bytes = ap (bytes_for s) is_packed ∙ bytes_packed s 0 i whole

        held : length (memory_of i.text) ≤ length text
        held = omega (arith, needs)

        pub reply_fits : (r.start < r.end) × (r.end ≤ length s) × (length (bytes_for s r) ≤ length text)
        reply_fits = nine_fits s 0 (length text) r i is_packed whole held

        -- the depth after the item goes by its kind
        pub reply_item : (d : ℕ) → d ≡ depth_after r.kind p.depth → {t : List ℕ} → t ≡ written (bytes_for s r) text
            → replied (item (words_of (deep_at p.depth r)) (position_at q d)) t ≡ next_of s p text
        unfolding give_of
        reply_item d hd {t} w =
            let after : d ≡ depth_after i.kind p.depth = hd ∙ ap (λ (x : Nine). depth_after x.kind p.depth) is_packed in
            ap (replied (item (words_of (deep_at p.depth r)) (position_at q d))) (w ∙ ap (λ (l : List ℕ). written l text) bytes)
            ∙ ap (λ (n : ℕ). replied (item (words_of (deep_at p.depth r)) (position_at q n)) (written (memory_of i.text) text)) after
            ∙ ap (λ (l : List ℕ). replied (item l (position_at q (depth_after i.kind p.depth))) (written (memory_of i.text) text))
            (ap (λ (x : Nine). words_of (deep_at p.depth x)) is_packed ∙ record_packed 0 p.depth i)
            ∙ sym (reply_is (gives i q) given ∙ rw (le-leb (length (memory_of i.text)) (length text) held))
