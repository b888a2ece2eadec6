-- The code's decision is the definition's `bare`.
use Rattle.std.proofs.Common.{None, Option, Some, Ok, Err, Result}
use Prim.Native.Nat.{ℕ, zero, suc, ◌+◌, ◌-◌, ◌≤◌}
use mathlib.Core.Path.{◌≡◌, refl, sym, ap, subst, ◌∙◌}
use mathlib.Core.Bool.{Bool, true, false, ◌&&◌}
use mathlib.Core.List.{List, [], ◌∷◌, ◌++◌, append-nil}
use lib.ListN.{length, drop}
use lib.Dec.{eqb, ltb}
use native.Mathlib.Omega.{arith}
use borrow.Author.Tests.{eq-eqb, ne_eqb}
use Rattle.laws.specs.Quoted.{code, codes}
use Rattle.laws.specs.Texts.{begins}
use Rattle.laws.proofs.Choice.{by_bool, no_yes, and_no, impossible}
use Rattle.chars.specs.Blank.{is_blank}
use Rattle.chars.specs.Encode.{width, bytes_of}
use Rattle.chars.proofs.Good.{Scalars}
use Rattle.chars.proofs.Width.{wide}
use Rattle.numbers.specs.declared.ParseError.TheVariants as parsed
use Rattle.numbers.specs.Grammar.{parse_number, Parsed}
use Rattle.items.specs.declared.Quotes.TheVariants.{Lines}
use Rattle.items.specs.declared.Outcome.{Outcome}
use Rattle.items.specs.declared.Outcome.TheVariants.{Token, Str, HereStr, Word, Run, Lined, Keyword, Character, Error, ErrorAt}
use Rattle.items.specs.declared.CharError.{CharError}
use Rattle.items.specs.declared.CharError.TheVariants.{Wrong, WrongAt}
use Rattle.items.specs.declared.Phase.{Phase}
use Rattle.items.specs.declared.Next.TheVariants.{Eat, Stop}
use Rattle.items.specs.Classes.{first_of}
use Rattle.items.specs.Machine.{step_of, finish_of, on_first, scan_of}
use Rattle.items.specs.Readers.{SoFar, so_far, eat, Read, got, read_item, first_is}
use Rattle.items.specs.Meaning.{Text, none, source, decoded, Meaning, means, meaning_of, word_kind, word_means, run_means, lined_text, escaped, unescape, character_of, char_inside, character_means}
use Rattle.items.specs.Items.{Item, Place, unset, range_after, items_of, extent_items, items_from, items, byte_count}
use Rattle.items.specs.Kinds as kind
use Rattle.items.proofs.Cases.{by_next}
use Rattle.items.proofs.OneOrTwo.{OneOrTwo, few_items}
use Rattle.items.proofs.Order.{items_length}
use Rattle.items.proofs.Same.{item_same}
use Rattle.items.proofs.Splits.{length_bytes}
use Rattle.items_r7rs.proofs.Reading.{eats, whole, eats-whole}
use Rattle.items_writing.specs.Written.{gap, is_part, is_word, bare}
use Rattle.items_writing.specs.Decide.{close_of, stand_from, name_word, name_run, is_name, stands_as, decide}
use Rattle.items_writing.proofs.ReadsBack.{later, word_starts}
use Rattle.items_writing.proofs.Places.{first_items, bare_empty, tested}
use Rattle.items_writing.proofs.FirstLine.{line_gap, from_start}
use Rattle.items_writing.proofs.Moved.{bald, flat, next, steps_alike, finish_flat}

-- ---- what an extent's items say

-- an item is not named if one of the five tests fails
module _ (p : Place) (a b : ℕ) where
  other_text : (k d : ℕ) (x : Text) → is_part a b x ≡ false → is_word a b (items_of true p a b (means k d x ∷ [])) ≡ false
  other_text k d x e = rw e (and_no (eqb k kind.Identifier && eqb d 0 && eqb a a && eqb b b))

  no_text : (k d : ℕ) → is_word a b (items_of true p a b (means k d none ∷ [])) ≡ false
  no_text k d = other_text k d none refl

  its_text : is_word a b (items_of true p a b (means kind.Identifier 0 (source a b) ∷ [])) ≡ true
  its_text = rw (eq-eqb a a refl, eq-eqb b b refl)

  word_named : (raw : List ℕ) → is_word a b (items_of true p a b (word_means a b raw)) ≡ name_word raw
  unfolding word_means
  word_named raw = by_bool (eqb (word_kind raw) kind.Identifier)
      (λ e. by_bool (first_is (code "+") raw && ltb 1 (length raw))
      (λ f. rw (e, f))
      (λ f. rw (e, f) its_text))
      (λ e. rw e (no_text (word_kind raw) 0))

  run_named : (q : Parsed) (raw : List ℕ) → is_word a b (items_of true p a b (run_means q a b raw)) ≡ name_run q raw
  unfolding run_means
  run_named (Ok x) raw = refl
  run_named (Err parsed.NoNumber) raw = word_named raw
  run_named (Err parsed.ZeroDenominator) raw = refl

  lined_named : (raw : List ℕ) → is_word a b (items_of true p a b (means kind.Identifier 0 (lined_text a b raw) ∷ [])) ≡ false
  unfolding lined_text
  lined_named raw =
      let e : eqb (a + 1) a ≡ false = ne_eqb (a + 1) a (λ q. omega arith) in
      by_bool (escaped raw && ltb 0 (length (unescape Lines (drop 1 raw))))
      (λ f. rw f (other_text kind.Identifier 0 (decoded (unescape Lines (drop 1 raw))) refl))
      (λ f. rw f (other_text kind.Identifier 0 (source (a + 1) (b - 1)) (rw e)))

  character_named : (v : Result ℕ CharError) → is_word a b (items_of true p a b (character_means v)) ≡ false
  character_named (Ok c) = refl
  character_named (Err (Wrong n d)) = no_text (kind.first_error + n) d
  character_named (Err (WrongAt n d q)) = no_text (kind.first_error + n) d

  meant_named : (o : Outcome) (raw : List ℕ) → is_word a b (items_of true p a b (meaning_of true o a b raw)) ≡ is_name o raw
  unfolding is_name
  meant_named (Token k d) raw = no_text k d
  meant_named Str raw = refl
  meant_named HereStr raw = refl
  meant_named Word raw = word_named raw
  meant_named Run raw = run_named (parse_number raw) raw
  meant_named Lined raw = lined_named raw
  meant_named Keyword raw = refl
  meant_named Character raw = character_named (character_of true (char_inside raw))
  meant_named (Error n d) raw = no_text (kind.first_error + n) d
  meant_named (ErrorAt n d x y) raw = no_text (kind.first_error + n) d

-- ---- the word, and the text that is read

-- an item that is read and ends elsewhere is not that word
elsewhere : (p : Place) (a b e : ℕ) (ms : List Meaning) (is : List Item) → 1 ≤ length ms → eqb e b ≡ false → is_word a b (items_of true p a e ms ++ is) ≡ false
elsewhere p a b e [] is h f = absurd (omega arith)
elsewhere p a b e (m ∷ []) [] h f = rw f (elsewhere_and (eqb m.kind kind.Identifier && eqb m.detail 0 && eqb a a) (is_part a b m.text))
  where
    elsewhere_and : (x y : Bool) → (x && false && y) ≡ false
    elsewhere_and true y = refl
    elsewhere_and false y = refl
elsewhere p a b e (m ∷ []) (i ∷ is) h f = refl
elsewhere p a b e (m ∷ n ∷ ms) is h f = refl

-- how a scan of the word and the gap goes
abbrev pub Scanned : Option Outcome → Bool → SoFar → Read → Type 0
Scanned (Some o) last j r = r ≡ got o j (gap last)
Scanned None last j r = eqb r.item.at j.at ≡ false

eats_further : (i : SoFar) (t : List ℕ) → i.at ≤ (eats i t).at
eats_further i [] = omega arith
eats_further i (c ∷ t) = omega (arith, eats_further (eat i c) t)

closes : (last : Bool) (p : Phase) (i : SoFar) → Scanned (close_of last p i) last i (scan_of true p i (gap last))
unfolding scan_of
closes true p i = refl
closes false p i = by_next (step_of true p i (code " "))
    (λ q e. rw e (rw (e, scan_of) (ne_eqb (i.at + width (code " ")) i.at (λ f. omega (arith, wide (code " "))))))
    (λ o e. rw e (rw (e, scan_of)))

stands : (last : Bool) (p : Phase) (i : SoFar) (t : List ℕ) → Scanned (stand_from last p i t) last (eats i t) (scan_of true p i (t ++ gap last))
unfolding stand_from scan_of
stands last p i [] = closes last p i
stands last p i (c ∷ t) = by_next (step_of true p i c)
    (λ q e. rw (e, stand_from, scan_of) (stands last q (eat i c) t))
    (λ o e. rw (e, stand_from, scan_of) (ne_eqb i.at (eats (eat i c) t).at (λ f. omega (arith, wide c, eats_further (eat i c) t))))

-- ---- the tests

pub after_gap : (last : Bool) (turns : ℕ) (p : Place) (n : ℕ) → items_from true turns p n (gap last) ≡ []
unfolding items_from is_blank
after_gap true zero p n = refl
after_gap true (suc turns) p n = refl
after_gap false zero p n = refl
after_gap false (suc zero) p n = refl
after_gap false (suc (suc turns)) p n = refl

module _ (c : ℕ) (t : List ℕ) (last : Bool) (a turns : ℕ) (b : is_blank c ≡ false) where
  abbrev stand : Option Outcome
  stand = stand_from last (on_first (first_of c)) (eat (so_far [] a) c) t

  abbrev r : Read
  r = read_item true a c (t ++ gap last)

  pub scanned : Scanned stand last (whole a (c ∷ t)) r
  scanned =
      let x = stands last (on_first (first_of c)) (eat (so_far [] a) c) t in
      subst (λ (j : SoFar). Scanned stand last j r) (eats-whole a (c ∷ t)) (rw (item_same true a c (t ++ gap last)) at x)

  by_stand : (s : Option Outcome) → Scanned s last (whole a (c ∷ t)) r
      → is_word a (a + byte_count (c ∷ t)) (extent_items true unset a r.what r.item ++ items_from true turns (range_after true unset a r.what r.item) r.item.at r.rest)
      ≡ stands_as s (bytes_of (c ∷ t))
  unfolding extent_items
  by_stand (Some o) q =
      let e : ℕ = a + byte_count (c ∷ t) in
      let p : Place = range_after true unset a o (whole a (c ∷ t)) in
      rw q (rw (after_gap last turns p e, append-nil (items_of true p a e (meaning_of true o a e (bytes_of (c ∷ t))))) (meant_named p a e o (bytes_of (c ∷ t))))
  by_stand None q =
      let p : Place = range_after true unset a r.what r.item in
      let ms : List Meaning = meaning_of true r.what a r.item.at r.item.bytes in
      let f : OneOrTwo (extent_items true unset a r.what r.item) = few_items true unset a r.what r.item in
      let l : length (items_of true p a r.item.at ms) ≡ length ms = items_length true a r.item.at p ms in
      elsewhere p a (a + byte_count (c ∷ t)) r.item.at ms (items_from true turns p r.item.at r.rest) (omega (arith, f.0)) q

  word_is : is_word a (a + byte_count (c ∷ t)) (items_from true (suc turns) unset a (c ∷ t ++ gap last)) ≡ stands_as stand (bytes_of (c ∷ t))
  unfolding items_from
  word_is = rw (b, items_from) (by_stand stand scanned)

-- ---- wherever it stands

name_of : (o : Outcome) (raw : List ℕ) → is_name o raw ≡ is_name (bald o) raw
unfolding is_name
name_of (Token k d) raw = refl
name_of Str raw = refl
name_of HereStr raw = refl
name_of Word raw = refl
name_of Run raw = refl
name_of Lined raw = refl
name_of Keyword raw = refl
name_of Character raw = refl
name_of (Error n d) raw = refl
name_of (ErrorAt n d a b) raw = refl

name_bald : (o w : Outcome) (raw : List ℕ) → bald o ≡ bald w → is_name o raw ≡ is_name w raw
name_bald o w raw e = name_of o raw ∙ (ap (λ (x : Outcome). is_name x raw) e ∙ sym (name_of w raw))

apart : (q : Phase) (o : Outcome) {A : Type 0} → next (Eat q) ≡ next (Stop o) → A
apart q o e = impossible cc

apart_too : (q : Phase) (o : Outcome) {A : Type 0} → next (Stop o) ≡ next (Eat q) → A
apart_too q o e = impossible cc

module _ (last : Bool) (raw : List ℕ) where
  close_alike : (l : Bool) (p q : Phase) (i j : SoFar) → flat p ≡ flat q → i.bytes ≡ j.bytes → stands_as (close_of l p i) raw ≡ stands_as (close_of l q j) raw
  close_alike true p q i j e f =
      name_bald (finish_of p i.bytes) (finish_of q j.bytes) raw
      (finish_flat p i.bytes ∙ (ap (λ (x : Phase). bald (finish_of x i.bytes)) e ∙ (ap (λ (b : List ℕ). bald (finish_of (flat q) b)) f ∙ sym (finish_flat q j.bytes))))
  close_alike false p q i j e f =
      let s : next (step_of true p i (code " ")) ≡ next (step_of true q j (code " ")) = steps_alike true p q i j (code " ") e f in
      by_next (step_of true p i (code " "))
      (λ x g. by_next (step_of true q j (code " "))
      (λ y h. rw (g, h))
      (λ y h. apart x y (rw (g, h) at s)))
      (λ x g. by_next (step_of true q j (code " "))
      (λ y h. apart_too y x (rw (g, h) at s))
      (λ y h. rw (g, h) (name_bald x y raw (let z : next (Stop x) ≡ next (Stop y) = rw (g, h) at s in cc))))

  stand_alike : (p q : Phase) (i j : SoFar) (t : List ℕ) → flat p ≡ flat q → i.bytes ≡ j.bytes → stands_as (stand_from last p i t) raw ≡ stands_as (stand_from last q j t) raw
  unfolding stand_from
  stand_alike p q i j [] e f = close_alike last p q i j e f
  stand_alike p q i j (c ∷ t) e f =
      let s : next (step_of true p i c) ≡ next (step_of true q j c) = steps_alike true p q i j c e f in
      by_next (step_of true p i c)
      (λ x g. by_next (step_of true q j c)
      (λ y h. rw (g, h, stand_from) (stand_alike x y (eat i c) (eat j c) t (let z : next (Eat x) ≡ next (Eat y) = rw (g, h) at s in cc) (rw f)))
      (λ y h. apart x y (rw (g, h) at s)))
      (λ x g. by_next (step_of true q j c)
      (λ y h. apart_too y x (rw (g, h) at s))
      (λ y h. rw (g, h, stand_from)))

-- ---- the definition's test

-- a word that starts with a blank, and a first word that begins with `#!`, are none
blank_none : (c : ℕ) (t : List ℕ) (last : Bool) (a turns : ℕ) → is_blank c ≡ true → is_word a (a + byte_count (c ∷ t)) (items_from true (suc turns) unset a (c ∷ t ++ gap last)) ≡ false
unfolding items_from
blank_none c t last a turns b =
    let is : List Item = items_from true turns unset (a + width c) (t ++ gap last) in
    by_bool (is_word a (a + byte_count (c ∷ t)) is)
    (λ e. absurd (omega (arith, wide c, word_starts (a + width c) a (a + byte_count (c ∷ t)) is (later turns (a + width c) (t ++ gap last)) e)))
    (λ e. rw (b, items_from) e)

module _ (last : Bool) (c : ℕ) (t : List ℕ) where
  abbrev as_decided : Bool
  as_decided = stands_as (stand_from last (on_first (first_of c)) (eat (so_far [] 0) c) t) (bytes_of (c ∷ t))

  -- the items of the word from a place on
  from_place : (a : ℕ) → is_blank c ≡ false → is_word a (a + byte_count (c ∷ t)) (items_from true (suc (length (t ++ gap last))) unset a (c ∷ t ++ gap last)) ≡ as_decided
  from_place a b =
      word_is c t last a (length (t ++ gap last)) b
      ∙ stand_alike last (bytes_of (c ∷ t)) (on_first (first_of c)) (on_first (first_of c)) (eat (so_far [] a) c) (eat (so_far [] 0) c) t refl refl

line_keeps : (c : ℕ) (t w : List ℕ) → begins (codes "#!") (c ∷ t) ≡ true → begins (codes "#!") (c ∷ t ++ w) ≡ true
unfolding begins
line_keeps c [] w h = no_yes (sym (and_no (eqb (code "#") c)) ∙ h)
line_keeps c (x ∷ t) w h = h

module _ (last : Bool) (c : ℕ) (t : List ℕ) where
  -- after a space
  later_decided : is_word 1 (1 + length (bytes_of (c ∷ t))) (items true (code " " ∷ (c ∷ t ++ gap last))) ≡ decide false last (c ∷ t)
  unfolding items items_from is_blank width decide
  later_decided = rw (length_bytes (c ∷ t)) (by_bool (is_blank c)
      (λ b. rw b (blank_none c t last 1 (length (t ++ gap last)) b))
      (λ b. rw b (from_place last c t 1 b)))

  -- first in the text
  line_none : begins (codes "#!") (c ∷ t) ≡ true → is_word 0 (0 + byte_count (c ∷ t)) (items true (c ∷ t ++ gap last)) ≡ false
  line_none e = by_bool (is_word 0 (0 + byte_count (c ∷ t)) (items true (c ∷ t ++ gap last)))
      (λ w. no_yes (sym (first_items c (t ++ gap last) (0 + byte_count (c ∷ t)) w).no_line ∙ line_keeps c t (gap last) e))
      (λ w. w)

  first_decided : is_word 0 (0 + length (bytes_of (c ∷ t))) (items true (c ∷ t ++ gap last)) ≡ decide true last (c ∷ t)
  unfolding decide
  first_decided = rw (length_bytes (c ∷ t)) (by_bool (begins (codes "#!") (c ∷ t))
      (λ e. by_bool (is_blank c)
      (λ b. rw (b, line_none e))
      (λ b. rw (b, e, line_none e)))
      (λ e. rw (from_start (c ∷ t ++ gap last) (line_gap c t last e)) (by_bool (is_blank c)
      (λ b. rw (b, blank_none c t last 0 (length (t ++ gap last)) b))
      (λ b. rw (b, e) (from_place last c t 0 b)))))

-- a text of whole characters reads back bare exactly if the machine says so
pub bare_decided : (first last : Bool) (v : List ℕ) → Scalars v → bare first last (bytes_of v) ≡ decide first last v
unfolding bare decide
bare_decided first last [] h = bare_empty first last
bare_decided true last (c ∷ t) h = rw (tested true last (c ∷ t) h) (first_decided last c t)
bare_decided false last (c ∷ t) h = rw (tested false last (c ∷ t) h) (later_decided last c t)
