-- What an error starts with: a byte of ASCII, and a comment that is not closed with two. Only a word may start past ASCII (`first_byte`), and no
-- word is an error.
use Rattle.std.proofs.Common.{Ok, Err, Result}
use Prim.Native.Nat.{ℕ, ◌+◌, ◌≤◌, ◌<◌}
use mathlib.Core.Path.{◌≡◌}
use mathlib.Core.Bool.{true, ◌&&◌}
use mathlib.Core.List.{List, [], ◌∷◌}
use mathlib.Core.Logic.{◌⊎◌, inl, inr}
use lib.ListN.{length, get_or}
use lib.Dec.{eqb, ltb}
use native.Mathlib.Omega.{arith}
use borrow.Author.Tests.{ltb-true}
use Rattle.laws.specs.Quoted.{code}
use Rattle.laws.proofs.Choice.{if_all}
use Rattle.numbers.specs.Grammar.{parse_number, Parsed}
use Rattle.numbers.specs.declared.ParseError.TheVariants as parsed
use Rattle.items.specs.Kinds as kind
use Rattle.items.specs.declared.Outcome.{Outcome}
use Rattle.items.specs.declared.Outcome.TheVariants.{Token, Str, HereStr, Word, Run, Lined, Keyword, Character, Error, ErrorAt}
use Rattle.items.specs.declared.CharError.{CharError}
use Rattle.items.specs.declared.CharError.TheVariants.{Wrong, WrongAt}
use Rattle.items.specs.Readers.{Read, first_is, read_item}
use Rattle.items.specs.Meaning.{Meaning, word_kind, word_means, run_means, character_of, character_means, char_inside, meaning_of}
use Rattle.items.specs.Items.{Place, Item, items_of, range_after, standing, extent_items}
use Rattle.items.proofs.Every.{Every}
use Rattle.items.proofs.Meanings.{word_le}
use Rattle.items.proofs.Own.{Own, holds}
use Rattle.items.proofs.OwnSteps.{read_own}
use Rattle.items_coverage.proofs.Located.{items_there}
use Rattle.lines_theorems.proofs.Along.{Along}
use Rattle.lines_theorems.proofs.Outcomes.{Second, Known, read_known}
use Rattle.lines_theorems.proofs.First.{first_byte}
use Rattle.findings_theorems.proofs.Spans.{four}

-- of an item of kind k with the bytes raw: an error's first byte is ASCII, and the second of error 4
abbrev pub Opened : List ℕ → ℕ → Type 0
Opened raw k = (kind.first_error ≤ k → get_or raw 0 0 < 0x80) × (k ≡ four → Second raw)

abbrev pub OpenedItem : List ℕ → Item → Type 0
OpenedItem raw i = Opened raw i.kind

module _ (s e : ℕ) (raw : List ℕ) where
  abbrev Means : List Meaning → Type 0
  Means ms = Every (λ (m : Meaning). Opened raw m.kind) ms

  fine : (k : ℕ) → k < kind.first_error → Opened raw k
  fine k h = ((λ l. absurd (omega arith)), (λ l. absurd (omega arith)))

  of_word : Means (word_means s e raw)
  unfolding word_means
  of_word =
      if_all Means (eqb (word_kind raw) kind.Identifier)
      (if_all Means (first_is (code "+") raw && ltb 1 (length raw)) (fine _ (omega arith), (fine _ (omega arith), tt)) (fine _ (omega arith), tt))
      (fine _ (omega (arith, word_le raw)), tt)

  module _ (low : get_or raw 0 0 < 0x80) where
    of_run_lem : (p : Parsed) → Means (run_means p s e raw)
    unfolding run_means
    of_run_lem (Ok p) = (fine _ (omega arith), tt)
    of_run_lem (Err parsed.NoNumber) = of_word
    of_run_lem (Err parsed.ZeroDenominator) = (((λ _. low), (λ l. absurd (omega arith))), tt)

    of_character : (v : Result ℕ CharError) → Second raw → Means (character_means v)
    of_character (Ok c) h = (fine _ (omega arith), tt)
    of_character (Err (Wrong n d)) h = (((λ _. low), (λ _. h)), tt)
    of_character (Err (WrongAt n d p)) h = (((λ _. low), (λ _. h)), tt)

    of_error : (n : ℕ) → (n ≡ kind.IncompleteComment → Second raw) → Opened raw (kind.first_error + n)
    of_error n h = ((λ _. low), (λ l. h (omega arith)))

    of_low : (M : ℕ → Type 0) (o : Outcome) → Own s e o → Known M true raw o → Means (meaning_of true o s e raw)
    of_low M (Token k d) w g = (fine k (ltb-true k kind.first_error (holds (ltb k kind.first_error) w)), tt)
    of_low M Str w g = (fine _ (omega arith), tt)
    of_low M HereStr w g = (fine _ (omega arith), tt)
    of_low M Word w g = of_word
    of_low M Run w g = of_run_lem (parse_number raw)
    of_low M Lined w g = (fine _ (omega arith), tt)
    of_low M Keyword w g = (fine _ (omega arith), tt)
    of_low M Character w g = of_character (character_of true (char_inside raw)) g
    of_low M (Error n d) w g = (of_error n g, tt)
    of_low M (ErrorAt n d a b) w g = (of_error n g.0, tt)

  of_outcome : (M : ℕ → Type 0) (o : Outcome) → (get_or raw 0 0 < 0x80) ⊎ (o ≡ Word) → Own s e o → Known M true raw o → Means (meaning_of true o s e raw)
  of_outcome M o (inl low) w g = of_low low M o w g
  of_outcome M o (inr f) w g = rw f of_word

  of_items : (l : Place) (ms : List Meaning) → Means ms → Every (OpenedItem raw) (items_of true l s e ms)
  of_items l [] h = tt
  of_items l (m ∷ ms) h = (h.0, of_items l ms h.1)

-- the items of an extent in report mode
pub extent_opened : (M : ℕ → Type 0) (last : Place) (at c : ℕ) (cs : List ℕ) → Along M at (c ∷ cs)
    → Every (OpenedItem (read_item true at c cs).item.bytes) (items_there true last at c cs)
unfolding extent_items
extent_opened M last at c cs h =
    let r : Read = read_item true at c cs in
    of_items at r.item.at r.item.bytes (range_after true (standing true last) at r.what r.item) (meaning_of true r.what at r.item.at r.item.bytes)
    (of_outcome at r.item.at r.item.bytes M r.what (first_byte true at c cs) (read_own at c cs) (read_known M true at c cs h))
