-- The records of a text, with the text memory that they were read into, are never refused 48 or 47 where none is an error or a comment: the
-- call writes what the definition writes for the text's items.
use Rattle.std.proofs.Common.{None}
use Prim.Native.Nat.{ℕ, zero, suc, ◌+◌, ◌-◌, ◌*◌, ◌≤◌, ◌<◌}
use mathlib.Core.Path.{◌≡◌, refl, sym, ap, subst, ◌∙◌}
use mathlib.Core.Bool.{Bool, true, false, not, ◌&&◌}
use mathlib.Core.List.{List, [], ◌∷◌, ◌++◌, append_assoc}
use lib.ListN.{length, get_or, length-append}
use lib.Seq.{get_or-append-add}
use lib.Dec.{eqb, leb, ltb}
use native.Mathlib.Omega.{arith}
use borrow.Author.Tests.{le-leb, le-ltb, ltb-true, not-true}
use Rattle.laws.proofs.Choice.{by_bool, and_true, no_yes}
use Rattle.chars.specs.Utf8.{chars, first_bad}
use Rattle.chars.proofs.Good.{encoded_good, good_bytes_lem}
use Rattle.items.specs.Meaning.{Text, none, source, decoded}
use Rattle.items.specs.Items.{Item, kept, record_of, byte_count, record_words, text_words, depth_after, memory_of, records, texts}
use Rattle.items.specs.Kinds as kind
use Rattle.items.proofs.Every.{Every}
use Rattle.items.proofs.Meanings.{Inside}
use Rattle.items.proofs.Order.{Placed, items_placed}
use Rattle.items.proofs.Skipped.{kept_every}
use Rattle.items.proofs.Splits.{length_bytes}
use Rattle.items_writing.specs.Written.{part, text_bytes, entry, entries, reads}
use Rattle.items_writing.specs.Shapes.{clean}
use Rattle.items_writing.specs.declared.WriteWords.{WriteWords}
use Rattle.items_writing.specs.Records.{count_of, words_at, records_from, records_in, is_whole, is_kind, text_right, is_right, is_left, fine, judge, text_of, entry_of, entries_of}
use Rattle.items_writing.specs.Call.{deliver, write_within, write_of}
use Rattle.refusal.specs.Refusals as refusal
use Rattle.items_writing_theorems.specs.Results.{result}
use Rattle.items_writing_theorems.proofs.Parts.{part_all}
use Rattle.items_writing_theorems.proofs.Characters.{Texty}
use Rattle.items_writing_theorems.proofs.Extents.{Right, TextRight}
use Rattle.items_writing_theorems.proofs.TextSounds.{AllSounds, clean_head}
use Rattle.items_writing_theorems.proofs.Round.{source_sounds}

-- ---- a record's words

abbrev words : ℕ → ℕ → ℕ → ℕ → Text → WriteWords
words free k s e none = record { kind = k; start = s; «end» = e; origin = 0; first = 0; past = 0 }
words free k s e (source a b) = record { kind = k; start = s; «end» = e; origin = 1; first = a; past = b }
words free k s e (decoded bs) = record { kind = k; start = s; «end» = e; origin = 2; first = free; past = free + length bs }

abbrev words_for : ℕ → Item → WriteWords
words_for free i = words free i.kind i.start i.end i.text

-- the records after a first one
module _ (b ws : List ℕ) (ten : length b ≡ record_words) where
  there : (m n : ℕ) → n ≡ length b + m → get_or (b ++ ws) n 0 ≡ get_or ws m 0
  there m n e = rw e (get_or-append-add b ws m 0)

  words_there : (p : ℕ) → words_at (b ++ ws) (p + 1) ≡ words_at ws p
  words_there p = λ i. record {
    kind = there (p * record_words) ((p + 1) * record_words) (omega arith) i;
    start = there (p * record_words + 2) ((p + 1) * record_words + 2) (omega arith) i;
    «end» = there (p * record_words + 3) ((p + 1) * record_words + 3) (omega arith) i;
    origin = there (p * record_words + 6) ((p + 1) * record_words + 6) (omega arith) i;
    first = there (p * record_words + 7) ((p + 1) * record_words + 7) (omega arith) i;
    past = there (p * record_words + 8) ((p + 1) * record_words + 8) (omega arith) i;
  }

  from_there : (n p : ℕ) → records_from n (p + 1) (b ++ ws) ≡ records_from n p ws
  unfolding records_from
  from_there zero p = refl
  from_there (suc n) p = cc (words_there p, from_there n (p + 1))

  records_there : records_in (b ++ ws) ≡ words_at (b ++ ws) 0 ∷ records_in ws
  unfolding records_from
  records_there =
      let e : count_of (b ++ ws) - 0 ≡ suc (count_of ws - 0) = omega (arith, length-append b ws) in
      rw e (ap (λ (l : List WriteWords). words_at (b ++ ws) 0 ∷ l) (from_there (count_of ws - 0) 0))

one_record : (free k d s e a b n : ℕ) (x : Text) (ws : List ℕ) → records_in (((k ∷ d ∷ s ∷ e ∷ a ∷ b ∷ text_words free x) ++ (n ∷ [])) ++ ws) ≡ words free k s e x ∷ records_in ws
one_record free k d s e a b n none ws = records_there ((k ∷ d ∷ s ∷ e ∷ a ∷ b ∷ text_words free none) ++ (n ∷ [])) ws refl
one_record free k d s e a b n (source x y) ws = records_there ((k ∷ d ∷ s ∷ e ∷ a ∷ b ∷ text_words free (source x y)) ++ (n ∷ [])) ws refl
one_record free k d s e a b n (decoded bs) ws = records_there ((k ∷ d ∷ s ∷ e ∷ a ∷ b ∷ text_words free (decoded bs)) ++ (n ∷ [])) ws refl

-- the depth before the items following an item
abbrev deeper : ℕ → Item → ℕ
deeper depth i = depth_after i.kind depth

-- fewer words past the records than one record has
module _ (past : List ℕ) (few : length past < record_words) where
  more_records : (free depth : ℕ) (i : Item) (is : List Item)
      → records_in (records free depth (i ∷ is) ++ past) ≡ words_for free i ∷ records_in (records (free + length (memory_of i.text)) (deeper depth i) is ++ past)
  unfolding records
  more_records free depth i is =
      let ws : List ℕ = records (free + length (memory_of i.text)) (deeper depth i) is in
      ap records_in (append_assoc (record_of free depth i) ws past)
      ∙ one_record free i.kind i.detail i.start i.end i.place.from i.place.to depth i.text (ws ++ past)

  no_records : (free depth : ℕ) → records_in (records free depth [] ++ past) ≡ []
  unfolding records records_from
  no_records free depth = let e : count_of past - 0 ≡ 0 = omega (arith, few) in rw e

-- ---- the text memory, and one item's part of it

module _ (s front back : List ℕ) (i : Item) (is : List Item) where
  -- the memory with this item's text passed
  passed : front ++ (texts (i ∷ is) ++ back) ≡ (front ++ memory_of i.text) ++ (texts is ++ back)
  unfolding texts
  passed = rw (append_assoc (memory_of i.text) (texts is) back, append_assoc front (memory_of i.text) (texts is ++ back))

  further : length (front ++ memory_of i.text) ≡ length front + length (memory_of i.text)
  further = length-append front (memory_of i.text)

text_there : (s front rest : List ℕ) (k a e : ℕ) (x : Text) → text_of s (front ++ (memory_of x ++ rest)) (words (length front) k a e x) ≡ text_bytes s x
unfolding text_of
text_there s front rest k a e none = refl
text_there s front rest k a e (source x y) = refl
text_there s front rest k a e (decoded bs) = part_all front bs rest

memory_is : (front back : List ℕ) (i : Item) (is : List Item) → front ++ (texts (i ∷ is) ++ back) ≡ front ++ (memory_of i.text ++ (texts is ++ back))
unfolding texts
memory_is front back i is = rw (append_assoc (memory_of i.text) (texts is) back)

entry_same : (s front back : List ℕ) (i : Item) (is : List Item) → entry_of s (front ++ (texts (i ∷ is) ++ back)) (words_for (length front) i) ≡ entry s i
unfolding text_of
entry_same s front back i is = rw (memory_is front back i is) (entry_is s front (texts is ++ back) i.kind i.start i.end i.text)
  where
    entry_is : (s front rest : List ℕ) (k a e : ℕ) (x : Text)
        → entry_of s (front ++ (memory_of x ++ rest)) (words (length front) k a e x)
        ≡ record { kind = k; start = a; end = e; raw = part a e s; text = text_bytes s x }
    entry_is s front rest k a e none = refl
    entry_is s front rest k a e (source x y) = refl
    entry_is s front rest k a e (decoded bs) = λ j. record { kind = k; start = a; end = e; raw = part a e s; text = part_all front bs rest j }

-- ---- the entries

entries_same : (past : List ℕ) → length past < record_words → (s front back : List ℕ) (depth : ℕ) (is : List Item)
    → entries_of s (front ++ (texts is ++ back)) (records_in (records (length front) depth is ++ past)) ≡ entries s is
unfolding records texts
entries_same past few s front back depth [] = ap (entries_of s (front ++ (texts [] ++ back))) (no_records past few (length front) depth)
entries_same past few s front back depth (i ∷ is) =
    let mem : List ℕ = front ++ (texts (i ∷ is) ++ back) in
    let rest : entries_of s mem (records_in (records (length front + length (memory_of i.text)) (deeper depth i) is ++ past)) ≡ entries s is
    = subst (λ (n : ℕ). entries_of s mem (records_in (records n (deeper depth i) is ++ past)) ≡ entries s is) (further s front back i is)
    (subst (λ (m : List ℕ). entries_of s m (records_in (records (length (front ++ memory_of i.text)) (deeper depth i) is ++ past)) ≡ entries s is) (sym (passed s front back i is))
    (entries_same past few s (front ++ memory_of i.text) back (deeper depth i) is)) in
    ap (entries_of s mem) (more_records past few (length front) depth i is) ∙ cc (entry_same s front back i is)

-- ---- no record is refused

whole_is : (s : List ℕ) (a b : ℕ) → a ≤ b → b ≤ length s → Texty (part a b s) → is_whole s a b ≡ true
unfolding is_whole
whole_is s a b h g t = rw (le-leb a b h, le-leb b (length s) g, t.1.0, encoded_good t.0 t.1.1)

text_is_right : (s front rest : List ℕ) (k a e : ℕ) (x : Text) → Inside a e x → e ≤ length s → TextRight s k x
    → text_right s (front ++ (memory_of x ++ rest)) (words (length front) k a e x) ≡ true
unfolding text_right
text_is_right s front rest k a e none i g t = rw t
text_is_right s front rest k a e (source x y) i g t = whole_is s x y i.1.0 (omega arith) t
text_is_right s front rest k a e (decoded bs) i g t =
    whole_is (front ++ (bs ++ rest)) (length front) (length front + length bs) (omega arith) (omega (arith, length-append front (bs ++ rest), length-append bs rest))
    (subst Texty (sym (part_all front bs rest)) t)

all_right : (s mem : List ℕ) (free k a e : ℕ) (x : Text) → leb k kind.Dot ≡ true → is_whole s a e ≡ true → text_right s mem (words free k a e x) ≡ true
    → is_right s mem (words free k a e x) ≡ true
unfolding is_right is_kind
all_right s mem free k a e none h g t = rw (h, g, t)
all_right s mem free k a e (source x y) h g t = rw (h, g, t)
all_right s mem free k a e (decoded bs) h g t = rw (h, g, t)

right_is : (s front back : List ℕ) (i : Item) (is : List Item) → Placed (length s) i → Right s i → is_right s (front ++ (texts (i ∷ is) ++ back)) (words_for (length front) i) ≡ true
right_is s front back i is p r = rw (memory_is front back i is)
    (all_right s (front ++ (memory_of i.text ++ (texts is ++ back))) (length front) i.kind i.start i.end i.text r.kind_right
    (whole_is s i.start i.end (omega (arith, p.some)) p.ends r.extent_right)
    (text_is_right s front (texts is ++ back) i.kind i.start i.end i.text p.text p.ends r.text_right_holds))

clean-kind : (i : Item) (is : List Item) → clean (i ∷ is) ≡ true → is_left i.kind ≡ false
unfolding clean is_left
clean-kind i is h = by_bool (ltb i.kind kind.first_error && not (eqb i.kind kind.Comment))
    (λ e. let k = and_true (ltb i.kind kind.first_error) (not (eqb i.kind kind.Comment)) e in
    let g : i.kind < kind.first_error = ltb-true i.kind kind.first_error k.0 in
    rw (le-ltb kind.first_error i.kind (omega arith), not-true (eqb i.kind kind.Comment) k.1))
    (λ e. no_yes (rw e at h))

kind_is : (free k a e : ℕ) (x : Text) → (words free k a e x).kind ≡ k
kind_is free k a e none = refl
kind_is free k a e (source x y) = refl
kind_is free k a e (decoded bs) = refl

judged_fine : (past : List ℕ) → length past < record_words → (s front back : List ℕ) (n depth : ℕ) (is : List Item) → Every (Placed (length s)) is → Every (Right s) is → clean is ≡ true
    → judge s (front ++ (texts is ++ back)) n (records_in (records (length front) depth is ++ past)) ≡ fine
unfolding judge records texts
judged_fine past few s front back n depth [] p r h = ap (judge s (front ++ (texts [] ++ back)) n) (no_records past few (length front) depth)
judged_fine past few s front back n depth (i ∷ is) p r h =
    let mem : List ℕ = front ++ (texts (i ∷ is) ++ back) in
    let rest : judge s mem (n + 1) (records_in (records (length front + length (memory_of i.text)) (deeper depth i) is ++ past)) ≡ fine
    = subst (λ (m : ℕ). judge s mem (n + 1) (records_in (records m (deeper depth i) is ++ past)) ≡ fine) (further s front back i is)
    (subst (λ (m : List ℕ). judge s m (n + 1) (records_in (records (length (front ++ memory_of i.text)) (deeper depth i) is ++ past)) ≡ fine) (sym (passed s front back i is))
    (judged_fine past few s (front ++ memory_of i.text) back (n + 1) (deeper depth i) is p.1 r.1 (clean_head i is h).1)) in
    ap (judge s mem n) (more_records past few (length front) depth i is) ∙
    (rw (right_is s front back i is p.0 r.0, ap is_left (kind_is (length front) i.kind i.start i.end i.text) ∙ clean-kind i is h) rest)

-- ---- the call

listed_right : (s : List ℕ) (is : List Item) → AllSounds s is → Every (Right s) is
listed_right s [] h = tt
listed_right s (i ∷ is) h = h.1

-- `past` is what the caller hands on past the records, less than one more, and `back` what lies in the text memory past the texts
pub written_back : (s : List ℕ) (skip : Bool) (past back out : List ℕ) → first_bad s ≡ None → clean (kept skip (reads s)) ≡ true → length past < record_words
    → write_of (records 0 0 (kept skip (reads s)) ++ past) s (texts (kept skip (reads s)) ++ back) out ≡ deliver refusal.limit (result s (kept skip (reads s))) out
unfolding write_within
written_back s skip past back out g w few =
    let is : List Item = kept skip (reads s) in
    let n : byte_count (chars s) ≡ length s = sym (length_bytes (chars s)) ∙ ap length (good_bytes_lem s g) in
    let p : Every (Placed (length s)) is = subst (λ (m : ℕ). Every (Placed m) is) n (kept_every (Placed (byte_count (chars s))) skip (reads s) (items_placed true (chars s))) in
    rw (judged_fine past few s [] back 0 0 is p (listed_right s is (source_sounds s skip g w)) w, entries_same past few s [] back 0 is)
