-- In report mode every item points at its own place (specs/Points): what an outcome sets (Own) is the place of its item, and where it sets
-- none the place is the extent, since no earlier range stands.
use Rattle.std.proofs.Common.{Ok, Err, Result}
use Prim.Native.Nat.{ℕ, zero, suc, ◌+◌, ◌≤◌, ◌<◌}
use mathlib.Core.Path.{◌≡◌, refl}
use mathlib.Core.Bool.{true, ◌&&◌}
use mathlib.Core.List.{List, [], ◌∷◌, ◌++◌}
use mathlib.Core.Logic.{inl, inr}
use lib.ListN.{length, drop, length-drop}
use lib.Dec.{eqb, leb, ltb}
use native.Mathlib.Omega.{arith}
use borrow.Author.Tests.{le-leb, lt-ltb}
use Rattle.laws.specs.Quoted.{code, one_of}
use Rattle.laws.proofs.Choice.{by_bool, if_all}
use Rattle.chars.specs.Encode.{width}
use Rattle.chars.specs.Blank.{is_blank}
use Rattle.numbers.specs.Grammar.{parse_number, Parsed}
use Rattle.numbers.specs.declared.ParseError.TheVariants as parsed
use Rattle.items.specs.declared.Outcome.{Outcome}
use Rattle.items.specs.declared.Outcome.TheVariants.{Token, Str, HereStr, Word, Run, Lined, Keyword, Character, Error, ErrorAt}
use Rattle.items.specs.declared.CharError.{CharError}
use Rattle.items.specs.declared.CharError.TheVariants.{Wrong, WrongAt}
use Rattle.items.specs.Kinds as kind
use Rattle.items.specs.Items.{Place, range, unset, character_sets, range_after, place_of, Item, items_of, extent_items, items_from, past_line, after_pound, items}
use Rattle.items.specs.Meaning.{Text, none, source, Meaning, one, word_kind, word_means, run_means, string_text, lined_text, here_text}
use Rattle.items.specs.Meaning.{character_of, char_inside, character_means, meaning_of}
use Rattle.items.specs.Points.{extent_errors, PointsAt, OwnPlace}
use Rattle.items.specs.Readers.{first_is, past_failing, read_item, SoFar, Read}
use Rattle.items.proofs.Every.{Every}
use Rattle.items.proofs.Failing.{past_within, Named, character_inside}
use Rattle.items.proofs.Meanings.{word_le}
use Rattle.items.proofs.Own.{holds, Own, Fails, character_fails}
use Rattle.items.proofs.OwnSteps.{read_own}
use Rattle.items.proofs.Splits.{read_at}

-- where no range is set the place is the extent
unset_place : (k : ℕ) (x : Place) → place_of true k unset x ≡ x
unset_place k x = by_bool (leb kind.first_error k) (λ e. rw e) (λ e. rw e)

-- where the extent is set it is the place
extent_place : (k : ℕ) (x : Place) → place_of true k x x ≡ x
extent_place k x = by_bool (leb kind.first_error k && ltb 0 x.to) (λ e. rw e) (λ e. rw e)

-- an error's own range is its place
pub set_place : (n a b : ℕ) (x : Place) → 0 < b → place_of true (kind.first_error + n) (range a b) x ≡ range a b
set_place n a b x h = rw (le-leb kind.first_error (kind.first_error + n) (omega arith), lt-ltb 0 b h)

module _ (s e : ℕ) where
  abbrev Owned : Place → List Meaning → Type 0
  Owned set ms = Every OwnPlace (items_of true set s e ms)

  good_one : (k d : ℕ) (x : Text) → ltb k kind.first_error ≡ true → Owned unset (one k d x)
  good_one k d x h = (OwnPlace.good h (unset_place k (range s e)), tt)

  unset_error : (n d : ℕ) → one_of extent_errors n ≡ true → Owned unset (one (kind.first_error + n) d none)
  unset_error n d h = (OwnPlace.error n refl (rw (unset_place (kind.first_error + n) (range s e)) (PointsAt.extent h refl refl)), tt)

  word_own : (raw : List ℕ) → Owned unset (word_means s e raw)
  unfolding word_means
  word_own raw =
      let P : List Meaning → Type 0 = Owned unset in
      if_all P (eqb (word_kind raw) kind.Identifier)
      (if_all P (first_is (code "+") raw && ltb 1 (length raw))
      (OwnPlace.good refl (unset_place kind.Identifier (range s e)), (OwnPlace.good refl (unset_place kind.Identifier (range s e)), tt))
      (good_one kind.Identifier 0 (source s e) refl))
      (good_one (word_kind raw) 0 none (lt-ltb (word_kind raw) kind.first_error (omega (arith, word_le raw))))

  run_own : (p : Parsed) (raw : List ℕ) → Owned unset (run_means p s e raw)
  unfolding run_means
  run_own (Ok p) raw = good_one kind.Number 0 none refl
  run_own (Err parsed.NoNumber) raw = word_own raw
  run_own (Err parsed.ZeroDenominator) raw = unset_error kind.ZeroDenominator 0 refl

  -- an error at a range of its own
  at_own : (n d a b : ℕ) → 0 < b → PointsAt s e n a b → Owned (range a b) (one (kind.first_error + n) d none)
  at_own n d a b h p = (OwnPlace.error n refl (rw (set_place n a b (range s e) h) p), tt)

  character_own : (i : SoFar) → i.at ≡ e → i.at ≡ s + length i.bytes → (v : Result ℕ CharError) → Fails (char_inside i.bytes) v
      → Named (length (char_inside i.bytes)) v
      → Owned (character_sets true v unset s i) (character_means v)
  character_own i l g (Ok c) f w = good_one kind.CharacterLiteral c none refl
  character_own i l g (Err (Wrong n d)) f w =
      rw l (OwnPlace.error n refl (rw (extent_place (kind.first_error + n) (range s e)) (PointsAt.extent (holds _ f) refl refl)), tt)
  character_own i l g (Err (WrongAt n d p)) f w =
      let t : List ℕ = char_inside i.bytes in
      let past = past_within d (s + 2 + p) (drop p t) in
      let ends : past_failing d (s + 2 + p) (drop p t) ≤ e = omega (arith, past.1, length-drop p t, length-drop 2 i.bytes) in
      at_own n d (s + 2 + p) (past_failing d (s + 2 + p) (drop p t)) (omega (arith, past.0)) (points f ends past.0)
    where
      points : Fails (char_inside i.bytes) (Err (WrongAt n d p)) → past_failing d (s + 2 + p) (drop p (char_inside i.bytes)) ≤ e
          → s + 2 + p ≤ past_failing d (s + 2 + p) (drop p (char_inside i.bytes))
          → PointsAt s e n (s + 2 + p) (past_failing d (s + 2 + p) (drop p (char_inside i.bytes)))
      points (inl h) ends past = PointsAt.failing h (omega arith) past ends
      points (inr (h, some, fits, one)) ends past = PointsAt.delimiter h (omega arith) (one (s + 2 + p)) ends

  meaning_own : (o : Outcome) (i : SoFar) → i.at ≡ e → i.at ≡ s + length i.bytes → Own s e o
      → Owned (range_after true unset s o i) (meaning_of true o s e i.bytes)
  meaning_own (Token k d) i l g h = good_one k d none (holds _ h)
  meaning_own Str i l g h = good_one kind.StringLiteral 0 (string_text s e i.bytes) refl
  meaning_own HereStr i l g h = good_one kind.StringLiteral 0 (here_text s e i.bytes) refl
  meaning_own Word i l g h = word_own i.bytes
  meaning_own Run i l g h = run_own (parse_number i.bytes) i.bytes
  meaning_own Lined i l g h = good_one kind.Identifier 0 (lined_text s e i.bytes) refl
  meaning_own Keyword i l g h = good_one kind.Keyword 0 (source s e) refl
  meaning_own Character i l g h =
      character_own i l g (character_of true (char_inside i.bytes)) (character_fails (char_inside i.bytes)) (character_inside true (char_inside i.bytes))
  meaning_own (Error n d) i l g h = unset_error n d (holds _ h)
  meaning_own (ErrorAt n d a b) i l g h = at_own n d a b h.0 h.1

extent_own : (s : ℕ) (o : Outcome) (i : SoFar) → i.at ≡ s + length i.bytes → Own s i.at o → (last : Place) → Every OwnPlace (extent_items true last s o i)
unfolding extent_items
extent_own s o i g h last = meaning_own s i.at o i refl g h

every_append : (P : Item → Type 0) (xs ys : List Item) → Every P xs → Every P ys → Every P (xs ++ ys)
every_append P [] ys h g = g
every_append P (x ∷ xs) ys h g = (h.0, every_append P xs ys h.1 g)

from_own : (turns : ℕ) (last : Place) (at : ℕ) (cs : List ℕ) → Every OwnPlace (items_from true turns last at cs)
unfolding items_from
from_own zero last at cs = tt
from_own (suc turns) last at [] = tt
from_own (suc turns) last at (c ∷ cs) = by_bool (is_blank c)
    (λ b. rw (b, items_from) (from_own turns last (at + width c) cs))
    (λ b. let r : Read = read_item true at c cs in
    rw (b, items_from)
    (every_append OwnPlace (extent_items true last at r.what r.item) _
    (extent_own at r.what r.item (read_at true at c cs) (read_own at c cs) last)
    (from_own turns (range_after true last at r.what r.item) r.item.at r.rest)))

line_own : (at : ℕ) (cs : List ℕ) → Every OwnPlace (past_line true at cs)
unfolding past_line
line_own at [] = tt
line_own at (c ∷ cs) = by_bool (eqb c (code "\n"))
    (λ e. rw (e, past_line) (from_own (length (c ∷ cs)) unset at (c ∷ cs)))
    (λ e. rw (e, past_line) (line_own (at + width c) cs))

pound_own : (cs : List ℕ) → Every OwnPlace (after_pound true cs)
unfolding after_pound
pound_own [] = from_own 1 unset 0 (code "#" ∷ [])
pound_own (c ∷ cs) = by_bool (eqb c (code "!"))
    (λ e. rw (e, after_pound) (line_own 2 cs))
    (λ e. rw (e, after_pound) (from_own (length (code "#" ∷ c ∷ cs)) unset 0 (code "#" ∷ c ∷ cs)))

-- every item of a text, in report mode, points at its own place
pub own_place : (cs : List ℕ) → Every OwnPlace (items true cs)
unfolding items
own_place [] = tt
own_place (c ∷ cs) = by_bool (eqb c (code "#"))
    (λ e. rw (e, items) (pound_own cs))
    (λ e. rw (e, items) (from_own (length (c ∷ cs)) unset 0 (c ∷ cs)))
