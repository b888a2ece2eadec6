-- An extent gives one item, or two: a word that begins with a plus. So nothing that was read is left out, and a reader that hands out
-- items one by one keeps at most one of them back.
use Rattle.std.proofs.Common.{Ok, Err, Result}
use Rattle.items.specs.declared.Outcome.{Outcome}
use Rattle.items.specs.declared.Outcome.TheVariants.{Token, Str, HereStr, Word, Run, Lined, Keyword, Character, Error, ErrorAt}
use Rattle.items.specs.declared.CharError.{CharError}
use Rattle.items.specs.declared.CharError.TheVariants.{Wrong, WrongAt}
use Rattle.items.specs.Items.{range_after, standing, items_of, extent_items, Place}
use Rattle.items.specs.Meaning.{word_kind, word_means, run_means, character_of, char_inside, character_means, meaning_of, Meaning}
use Rattle.items.specs.Readers.{first_is, SoFar}
use Rattle.items.proofs.Order.{items_length}
use Rattle.laws.specs.Quoted.{code}
use Rattle.laws.proofs.Choice.{if_all}
use Rattle.numbers.specs.Grammar.{parse_number, Parsed}
use Prim.Native.Nat.{ℕ, ◌≤◌}
use mathlib.Core.Path.{◌≡◌}
use mathlib.Core.Bool.{Bool, ◌&&◌}
use mathlib.Core.List.{List}
use lib.ListN.{length}
use lib.Dec.{eqb, ltb}
use native.Mathlib.Omega.{arith}
use Rattle.numbers.specs.declared.ParseError.TheVariants as parsed
use Rattle.items.specs.Kinds as kind

abbrev pub OneOrTwo : {A : Type 0} → List A → Type 0
OneOrTwo l = (1 ≤ length l) × (length l ≤ 2)

just_one : (1 ≤ 1) × (1 ≤ 2)
just_one = (omega arith, omega arith)

few_word : (s e : ℕ) (raw : List ℕ) → OneOrTwo (word_means s e raw)
unfolding word_means
few_word s e raw =
    let P : List Meaning → Type 0 = OneOrTwo in
    if_all P (eqb (word_kind raw) kind.Identifier)
    (if_all P (first_is (code "+") raw && ltb 1 (length raw)) (omega arith, omega arith) just_one)
    just_one

few_run : (p : Parsed) (s e : ℕ) (raw : List ℕ) → OneOrTwo (run_means p s e raw)
unfolding run_means
few_run (Ok p) s e raw = just_one
few_run (Err parsed.NoNumber) s e raw = few_word s e raw
few_run (Err parsed.ZeroDenominator) s e raw = just_one

few_character : (v : Result ℕ CharError) → OneOrTwo (character_means v)
few_character (Ok c) = just_one
few_character (Err (Wrong e d)) = just_one
few_character (Err (WrongAt e d p)) = just_one

few_meanings : (report : Bool) (o : Outcome) (s e : ℕ) (raw : List ℕ) → OneOrTwo (meaning_of report o s e raw)
few_meanings report (Token k d) s e raw = just_one
few_meanings report Str s e raw = just_one
few_meanings report HereStr s e raw = just_one
few_meanings report Word s e raw = few_word s e raw
few_meanings report Run s e raw = few_run (parse_number raw) s e raw
few_meanings report Lined s e raw = just_one
few_meanings report Keyword s e raw = just_one
few_meanings report Character s e raw = few_character (character_of report (char_inside raw))
few_meanings report (Error n d) s e raw = just_one
few_meanings report (ErrorAt n d a b) s e raw = just_one

pub few_items : (report : Bool) (last : Place) (s : ℕ) (o : Outcome) (i : SoFar) → OneOrTwo (extent_items report last s o i)
unfolding extent_items
few_items report last s o i =
    let ms : List Meaning = meaning_of report o s i.at i.bytes in
    let few : OneOrTwo ms = few_meanings report o s i.at i.bytes in
    let e : length (items_of report (range_after report (standing report last) s o i) s i.at ms) ≡ length ms = items_length report s i.at (range_after report (standing report last) s o i) ms in
    (omega arith, omega arith)
