-- A word that the tests `bare` and `splits` call one that reads back does read back, wherever it then stands.
use Rattle.std.proofs.Common.{Ok, Err, Result}
use Prim.Native.Nat.{ℕ, suc, ◌+◌, ◌-◌, ◌≤◌, ◌<◌}
use mathlib.Core.Path.{◌≡◌, refl, sym, ap, ◌∙◌}
use mathlib.Core.Bool.{Bool, true, false, ◌&&◌}
use mathlib.Core.List.{List, [], ◌∷◌, ◌++◌}
use lib.ListN.{length, drop}
use lib.Dec.{eqb, ltb}
use native.Mathlib.Omega.{arith}
use native.Mathlib.Nat.{le_refl}
use borrow.Author.Tests.{eqb-true}
use Rattle.laws.specs.Quoted.{code}
use Rattle.laws.proofs.Choice.{by_bool, and_true, no_yes, impossible}
use Rattle.chars.specs.Blank.{is_blank}
use Rattle.chars.specs.Encode.{width, bytes_of}
use Rattle.chars.proofs.Width.{wide}
use Rattle.numbers.specs.declared.ParseError.TheVariants as parsed
use Rattle.numbers.specs.Grammar.{parse_number, Parsed}
use Rattle.items.specs.declared.Outcome.{Outcome}
use Rattle.items.specs.declared.Outcome.TheVariants.{Token, Str, HereStr, Word, Run, Lined, Keyword, Character, Error, ErrorAt}
use Rattle.items.specs.declared.CharError.{CharError}
use Rattle.items.specs.declared.CharError.TheVariants.{Wrong, WrongAt}
use Rattle.items.specs.declared.Quotes.TheVariants.{Lines}
use Rattle.items.specs.Readers.{Read, got, first_is, read_item}
use Rattle.items.specs.Meaning.{Text, none, source, decoded, Meaning, means, one, meaning_of, word_kind, word_means, run_means, lined_text, escaped, unescape}
use Rattle.items.specs.Meaning.{character_of, char_inside, character_means}
use Rattle.items.specs.Items.{Item, Place, unset, range_after, item_of, items_of, extent_items, items_from, byte_count}
use Rattle.items.specs.Kinds as kind
use Rattle.items.proofs.Every.{Every, every_any}
use Rattle.items.proofs.OneOrTwo.{OneOrTwo, few_items}
use Rattle.items.proofs.Order.{from_laws, after_ranged, items_length}
use Rattle.items.proofs.Splits.{read_forward, read_end}
use Rattle.items_r7rs.specs.Reading.{bytes, item, ReadAs}
use Rattle.items_r7rs.proofs.Bytes.{spells_whole}
use Rattle.items_r7rs.proofs.Reading.{whole, read_one}
use Rattle.items_writing.specs.Written.{gap, is_part, named, is_word, is_pair}
use Rattle.items_writing.proofs.Moved.{Placeless}
use Rattle.items_writing.proofs.Follows.{Follows, read_followed, read_anyhow, read_bytes, good_placeless, good_keeps}

-- a plus and t, where cs follows, are read as two identifiers of one extent: `+`, and t
pub record ReadTwo (t cs : List ℕ) : Type 0 where
  pub two : (turns at : ℕ) (last : Place)
      → items_from true (suc turns) last at (code "+" ∷ t ++ cs)
      ≡ item kind.Identifier 0 at (at + byte_count (code "+" ∷ t)) (source at (at + 1))
      ∷ item kind.Identifier 0 at (at + byte_count (code "+" ∷ t)) (source (at + 1) (at + byte_count (code "+" ∷ t)))
      ∷ items_from true turns last (at + byte_count (code "+" ∷ t)) cs

part_is : (a b : ℕ) (x : Text) → is_part a b x ≡ true → x ≡ source a b
part_is a b none e = no_yes e
part_is a b (source x y) e =
    let h = and_true (eqb x a) (eqb y b) e in
    cc (eqb-true x a h.0, eqb-true y b h.1)
part_is a b (decoded bs) e = no_yes e

-- an item that is named so
record Named (s e a b : ℕ) (i : Item) : Type 0 where
  kind_is : i.kind ≡ kind.Identifier
  detail_is : i.detail ≡ 0
  start_is : i.start ≡ s
  end_is : i.end ≡ e
  text_is : i.text ≡ source a b

named_is : (s e a b : ℕ) (i : Item) → named s e a b i ≡ true → Named s e a b i
named_is s e a b i h =
    let p = and_true _ (is_part a b i.text) h in
    let q = and_true _ (eqb i.end e) p.0 in
    let r = and_true _ (eqb i.start s) q.0 in
    let t = and_true (eqb i.kind kind.Identifier) (eqb i.detail 0) r.0 in
    record {
      kind_is = eqb-true i.kind kind.Identifier t.0;
      detail_is = eqb-true i.detail 0 t.1;
      start_is = eqb-true i.start s r.1;
      end_is = eqb-true i.end e q.1;
      text_is = part_is a b i.text p.1;
    }

-- ---- the items of one extent, and those after it

-- one word: the extent has one item, and nothing follows
one_word : (p : Place) (s e a b : ℕ) (ms : List Meaning) (is : List Item) → 1 ≤ length ms → is_word a b (items_of true p s e ms ++ is) ≡ true
    → (e ≡ b) × (ms ≡ one kind.Identifier 0 (source a b))
one_word p s e a b [] is h w = absurd (omega arith)
one_word p s e a b (m ∷ []) [] h w =
    let n : Named a b a b (item_of true p s e m) = named_is a b a b (item_of true p s e m) w in
    (n.end_is, λ i. means (n.kind_is i) (n.detail_is i) (n.text_is i) ∷ [])
one_word p s e a b (m ∷ []) (i ∷ is) h w = no_yes w
one_word p s e a b (m ∷ x ∷ ms) is h w = no_yes w

-- a pair: it has two; one of it and another from later on cannot be, since both start at 0
two_words : (p : Place) (e n : ℕ) (ms : List Meaning) (is : List Item) → 1 ≤ length ms → 0 < e → Every (λ (i : Item). e ≤ i.start) is
    → is_pair n (items_of true p 0 e ms ++ is) ≡ true
    → (e ≡ n) × (ms ≡ means kind.Identifier 0 (source 0 1) ∷ means kind.Identifier 0 (source 1 n) ∷ [])
two_words p e n [] is h g f w = absurd (omega arith)
two_words p e n (m ∷ []) [] h g f w = no_yes w
two_words p e n (m ∷ []) (i ∷ []) h g f w =
    let x = and_true (named 0 n 0 1 (item_of true p 0 e m)) (named 0 n 1 n i) w in
    let y : Named 0 n 1 n i = named_is 0 n 1 n i x.1 in
    absurd (omega (arith, y.start_is, f.0))
two_words p e n (m ∷ []) (i ∷ j ∷ is) h g f w = no_yes w
two_words p e n (m ∷ x ∷ []) [] h g f w =
    let q = and_true (named 0 n 0 1 (item_of true p 0 e m)) (named 0 n 1 n (item_of true p 0 e x)) w in
    let y : Named 0 n 0 1 (item_of true p 0 e m) = named_is 0 n 0 1 (item_of true p 0 e m) q.0 in
    let z : Named 0 n 1 n (item_of true p 0 e x) = named_is 0 n 1 n (item_of true p 0 e x) q.1 in
    (y.end_is, λ i. means (y.kind_is i) (y.detail_is i) (y.text_is i) ∷ means (z.kind_is i) (z.detail_is i) (z.text_is i) ∷ [])
two_words p e n (m ∷ x ∷ []) (i ∷ is) h g f w = no_yes w
two_words p e n (m ∷ x ∷ y ∷ ms) is h g f w = no_yes w

-- the kind and the text of the first of some meanings
abbrev pub kind_in : List Meaning → ℕ
kind_in [] = 0
kind_in (m ∷ ms) = m.kind

abbrev pub text_in : List Meaning → Text
text_in [] = none
text_in (m ∷ ms) = m.text

-- ---- only words and number runs mean that, and they mean it wherever they stand

module _ (a n at : ℕ) (raw : List ℕ) where
  word_anywhere : word_means a (a + n) raw ≡ one kind.Identifier 0 (source a (a + n)) → word_means at (at + n) raw ≡ one kind.Identifier 0 (source at (at + n))
  unfolding word_means
  word_anywhere h = by_bool (eqb (word_kind raw) kind.Identifier)
      (λ e. by_bool (first_is (code "+") raw && ltb 1 (length raw))
      (λ f. let z = rw (e, f) at h in impossible cc)
      (λ f. rw (e, f)))
      (λ e. let z = ap text_in (rw e at h) in impossible cc)

  run_anywhere : (p : Parsed) → run_means p a (a + n) raw ≡ one kind.Identifier 0 (source a (a + n))
      → run_means p at (at + n) raw ≡ one kind.Identifier 0 (source at (at + n))
  unfolding run_means
  run_anywhere (Ok p) h = absurd (omega (arith, ap kind_in h))
  run_anywhere (Err parsed.NoNumber) h = word_anywhere h
  run_anywhere (Err parsed.ZeroDenominator) h = absurd (omega (arith, ap kind_in h))

  character_other : (v : Result ℕ CharError) {x : Text} {ms : List Meaning} → character_means v ≡ means kind.Identifier 0 x ∷ ms → ⊥
  character_other (Ok c) h = omega (arith, ap kind_in h)
  character_other (Err (Wrong e d)) h = omega (arith, ap kind_in h)
  character_other (Err (WrongAt e d p)) h = omega (arith, ap kind_in h)

  -- text in vertical lines starts past its extent
  lined_other : lined_text a (a + n) raw ≡ source a (a + n) → ⊥
  unfolding lined_text
  lined_other h = by_bool (escaped raw && ltb 0 (length (unescape Lines (drop 1 raw))))
      (λ e. let z = rw e at h in impossible cc)
      (λ e. let z : source (a + 1) (a + n - 1) ≡ source a (a + n) = rw e at h in let y : a + 1 ≡ a = cc in omega arith)

  means_anywhere : (o : Outcome) → meaning_of true o a (a + n) raw ≡ one kind.Identifier 0 (source a (a + n))
      → meaning_of true o at (at + n) raw ≡ one kind.Identifier 0 (source at (at + n))
  means_anywhere (Token k d) h = let z = ap text_in h in impossible cc
  means_anywhere Str h = absurd (omega (arith, ap kind_in h))
  means_anywhere HereStr h = absurd (omega (arith, ap kind_in h))
  means_anywhere Word h = word_anywhere h
  means_anywhere Run h = run_anywhere (parse_number raw) h
  means_anywhere Lined h = absurd (lined_other (ap text_in h))
  means_anywhere Keyword h = absurd (omega (arith, ap kind_in h))
  means_anywhere Character h = absurd (character_other (character_of true (char_inside raw)) h)
  means_anywhere (Error k d) h = absurd (omega (arith, ap kind_in h))
  means_anywhere (ErrorAt k d x y) h = absurd (omega (arith, ap kind_in h))

-- the same of a pair, which was read at 0
module _ (n at : ℕ) (raw : List ℕ) where
  abbrev pair : ℕ → List Meaning
  pair s = means kind.Identifier 0 (source s (s + 1)) ∷ means kind.Identifier 0 (source (s + 1) (s + n)) ∷ []

  abbrev first_pair : List Meaning
  first_pair = means kind.Identifier 0 (source 0 1) ∷ means kind.Identifier 0 (source 1 n) ∷ []

  word_twice : word_means 0 (0 + n) raw ≡ first_pair → word_means at (at + n) raw ≡ pair at
  unfolding word_means
  word_twice h = by_bool (eqb (word_kind raw) kind.Identifier)
      (λ e. by_bool (first_is (code "+") raw && ltb 1 (length raw))
      (λ f. rw (e, f))
      (λ f. let z = rw (e, f) at h in impossible cc))
      (λ e. let z = rw e at h in impossible cc)

  run_twice : (p : Parsed) → run_means p 0 (0 + n) raw ≡ first_pair → run_means p at (at + n) raw ≡ pair at
  unfolding run_means
  run_twice (Ok p) h = absurd (omega (arith, ap kind_in h))
  run_twice (Err parsed.NoNumber) h = word_twice h
  run_twice (Err parsed.ZeroDenominator) h = absurd (omega (arith, ap kind_in h))

  means_twice : (o : Outcome) → meaning_of true o 0 (0 + n) raw ≡ first_pair → meaning_of true o at (at + n) raw ≡ pair at
  means_twice (Token k d) h = let z = ap text_in h in impossible cc
  means_twice Str h = absurd (omega (arith, ap kind_in h))
  means_twice HereStr h = absurd (omega (arith, ap kind_in h))
  means_twice Word h = word_twice h
  means_twice Run h = run_twice (parse_number raw) h
  means_twice Lined h = impossible cc
  means_twice Keyword h = absurd (omega (arith, ap kind_in h))
  means_twice Character h = absurd (character_other 0 n at raw (character_of true (char_inside raw)) h)
  means_twice (Error k d) h = absurd (omega (arith, ap kind_in h))
  means_twice (ErrorAt k d x y) h = absurd (omega (arith, ap kind_in h))

-- ---- what starts with a blank has no item there

pub later : (turns at : ℕ) (cs : List ℕ) → Every (λ (i : Item). at ≤ i.start) (items_from true turns unset at cs)
later turns at cs =
    (from_laws (λ (x : ℕ). Unit {0}) (λ x h. tt) true (at + byte_count cs) turns unset at cs (omega arith, omega arith) (le_refl _)
    (every_any (λ (x : ℕ). Unit {0}) (λ x. tt) cs)).sorted.onward

-- the items after an extent start past it
after_later : (turns at c : ℕ) (cs : List ℕ)
    → Every (λ (i : Item). (read_item true at c cs).item.at ≤ i.start)
    (items_from true turns (range_after true unset at (read_item true at c cs).what (read_item true at c cs).item) (read_item true at c cs).item.at (read_item true at c cs).rest)
after_later turns at c cs =
    let r : Read = read_item true at c cs in
    let n : ℕ = at + byte_count (c ∷ cs) in
    let D : ℕ → Type 0 = λ x. Unit {0} in
    (from_laws D (λ x h. tt) true n turns (range_after true unset at r.what r.item) r.item.at r.rest
    (after_ranged D (λ x h. tt) true n unset at c cs (omega arith, omega arith) (le_refl n) (every_any D (λ x. tt) (c ∷ cs)))
    (omega (arith, read_end true at c cs)) (every_any D (λ x. tt) r.rest)).sorted.onward

pub word_starts : (n a b : ℕ) (is : List Item) → Every (λ (i : Item). n ≤ i.start) is → is_word a b is ≡ true → n ≤ a
word_starts n a b [] h w = no_yes w
word_starts n a b (i ∷ []) h w = let y : Named a b a b i = named_is a b a b i w in omega (arith, h.0, y.start_is)
word_starts n a b (i ∷ j ∷ is) h w = no_yes w

-- ---- a word

module _ (c : ℕ) (t : List ℕ) (last : Bool) (a turns : ℕ) where
  abbrev word_end : ℕ
  word_end = a + byte_count (c ∷ t)

  word_nonblank : is_word a word_end (items_from true (suc turns) unset a (c ∷ t ++ gap last)) ≡ true → is_blank c ≡ false
  unfolding items_from
  word_nonblank w = by_bool (is_blank c)
      (λ b. absurd (omega (
        arith,
        wide c,
        word_starts (a + width c) a word_end (items_from true turns unset (a + width c) (t ++ gap last))
            (later turns (a + width c) (t ++ gap last)) (rw (b, items_from) at w),
      )))
      (λ b. b)

  -- what one extent was read, and what it means
  record WordRead : Type 0 where
    nonblank : is_blank c ≡ false
    ends : (read_item true a c (t ++ gap last)).item.at ≡ word_end
    meant : meaning_of true (read_item true a c (t ++ gap last)).what a (read_item true a c (t ++ gap last)).item.at (read_item true a c (t ++ gap last)).item.bytes
        ≡ one kind.Identifier 0 (source a word_end)

  word_extent : is_word a word_end (items_from true (suc turns) unset a (c ∷ t ++ gap last)) ≡ true → WordRead
  unfolding items_from extent_items
  word_extent w =
      let b : is_blank c ≡ false = word_nonblank w in
      let r : Read = read_item true a c (t ++ gap last) in
      let p : Place = range_after true unset a r.what r.item in
      let ms : List Meaning = meaning_of true r.what a r.item.at r.item.bytes in
      let f : OneOrTwo (extent_items true unset a r.what r.item) = few_items true unset a r.what r.item in
      let l : length (items_of true p a r.item.at ms) ≡ length ms = items_length true a r.item.at p ms in
      let x = one_word p a r.item.at a word_end ms (items_from true turns p r.item.at r.rest) (omega (arith, f.0)) (rw (b, items_from) at w) in
      record { nonblank = b; ends = x.0; meant = x.1 }

  pub word_reads : is_word a word_end (items_from true (suc turns) unset a (c ∷ t ++ gap last)) ≡ true
      → {cs : List ℕ} → Follows last cs → ReadAs true (c ∷ t) cs kind.Identifier 0 (bytes (bytes_of (c ∷ t)))
  word_reads w {cs} f =
      let x : WordRead = word_extent w in
      let r : Read = read_item true a c (t ++ gap last) in
      let o : Outcome = r.what in
      let h : Placeless o = good_placeless o a r.item.at r.item.bytes x.meant (omega arith) in
      let took : (at : ℕ) → read_item true at c (t ++ cs) ≡ got o (whole at (c ∷ t)) cs = read_followed a c t last o refl x.ends h f in
      let n : ℕ = byte_count (c ∷ t) in
      let raw : r.item.bytes ≡ bytes_of (c ∷ t) = read_bytes a c t last o x.ends in
      let m : meaning_of true o a (a + n) (bytes_of (c ∷ t)) ≡ one kind.Identifier 0 (source a (a + n)) = rw (x.ends, raw) at x.meant in
      record {
        text = λ at. source at (at + n);
        one = read_one true c t cs o kind.Identifier 0 (λ at. source at (at + n)) x.nonblank refl took
            (λ p at. good_keeps o a (a + n) (whole at (c ∷ t)) m (omega arith) p at)
            (λ at. means_anywhere a n at (bytes_of (c ∷ t)) o m);
        spells = λ at. spells_whole at (c ∷ t);
      }

-- ---- a pair

module _ (t : List ℕ) (turns : ℕ) where
  abbrev pair_end : ℕ
  pair_end = byte_count (code "+" ∷ t)

  abbrev pair_item : Read
  pair_item = read_item true 0 (code "+") (t ++ gap false)

  record PairRead : Type 0 where
    ends : pair_item.item.at ≡ pair_end
    meant : meaning_of true pair_item.what 0 pair_item.item.at pair_item.item.bytes ≡ first_pair pair_end 0 []

  pair_extent : is_pair pair_end (items_from true (suc turns) unset 0 (code "+" ∷ t ++ gap false)) ≡ true → PairRead
  unfolding items_from extent_items is_blank
  pair_extent w =
      let r : Read = pair_item in
      let p : Place = range_after true unset 0 r.what r.item in
      let ms : List Meaning = meaning_of true r.what 0 r.item.at r.item.bytes in
      let f : OneOrTwo (extent_items true unset 0 r.what r.item) = few_items true unset 0 r.what r.item in
      let l : length (items_of true p 0 r.item.at ms) ≡ length ms = items_length true 0 r.item.at p ms in
      let x = two_words p r.item.at pair_end ms (items_from true turns p r.item.at r.rest) (omega (arith, f.0))
      (read_forward true 0 (code "+") (t ++ gap false)) (after_later turns 0 (code "+") (t ++ gap false)) w in
      record { ends = x.0; meant = x.1 }

  -- before a space, and also at the end
  pub pair_reads : is_pair pair_end (items_from true (suc turns) unset 0 (code "+" ∷ t ++ gap false)) ≡ true → (last : Bool) {cs : List ℕ} → Follows last cs → ReadTwo t cs
  unfolding items_from extent_items is_blank
  pair_reads w last {cs} f =
      let x : PairRead = pair_extent w in
      let r : Read = pair_item in
      let o : Outcome = r.what in
      let h : Placeless o = good_placeless o 0 r.item.at r.item.bytes x.meant (omega arith) in
      let n : ℕ = pair_end in
      let z : 0 + n ≡ n = omega arith in
      let took : (at : ℕ) → read_item true at (code "+") (t ++ cs) ≡ got o (whole at (code "+" ∷ t)) cs
      = read_anyhow 0 (code "+") t o refl (x.ends ∙ sym z) h last f in
      let raw : r.item.bytes ≡ bytes_of (code "+" ∷ t) = read_bytes 0 (code "+") t false o (x.ends ∙ sym z) in
      let m : meaning_of true o 0 (0 + n) (bytes_of (code "+" ∷ t)) ≡ first_pair n 0 []
      = ap (λ (e : ℕ). meaning_of true o 0 e (bytes_of (code "+" ∷ t))) (z ∙ sym x.ends) ∙ (ap (λ (b : List ℕ). meaning_of true o 0 r.item.at b) (sym raw) ∙ x.meant) in
      record {
        two = λ turns at p.
            rw (took at) (rw (good_keeps o 0 (0 + n) (whole at (code "+" ∷ t)) m (omega arith) p at, means_twice n at (bytes_of (code "+" ∷ t)) o m));
      }
