-- A decoded text is what the decoder makes of its item's extent, by the quotes that its kind tells.
use Rattle.std.proofs.Common.{Ok, Err, Result}
use Rattle.items.specs.Kinds as kind
use Rattle.items.specs.Meaning.{Text, none, source, decoded, Meaning, escaped, unescape, word_kind, word_means, run_means, string_text}
use Rattle.items.specs.Meaning.{lined_text, here_text, character_means, character_of, char_inside, meaning_of}
use Rattle.items.specs.Readers.{SoFar, first_is}
use Rattle.items.specs.Items.{Place, Item, items_of, range_after, standing, extent_items, memory_of}
use Rattle.items.specs.declared.Outcome.{Outcome}
use Rattle.items.specs.declared.Outcome.TheVariants.{Token, Str, HereStr, Word, Run, Lined, Keyword, Character, Error, ErrorAt}
use Rattle.items.specs.declared.CharError.{CharError}
use Rattle.items.specs.declared.CharError.TheVariants.{Wrong, WrongAt}
use Rattle.items.specs.declared.Quotes.TheVariants.{Lines}
use Rattle.items.proofs.Every.{Every}
use Rattle.numbers.specs.Grammar.{parse_number, Parsed}
use Rattle.numbers.specs.declared.ParseError.TheVariants as parsed
use Rattle.laws.specs.Quoted.{code}
use Rattle.laws.proofs.Choice.{if_all}
use Rattle.lexer.specs.Inner.{quotes_of}
use Prim.Native.Nat.{ℕ}
use mathlib.Core.Path.{◌≡◌, refl, subst}
use mathlib.Core.Bool.{Bool, ◌&&◌}
use mathlib.Core.List.{List, [], ◌∷◌}
use lib.ListN.{length, drop}
use lib.Dec.{eqb, ltb}

-- the text of an item of kind k whose extent's bytes are raw
abbrev pub SpelledText : List ℕ → ℕ → Text → Type 0
SpelledText raw k none = Unit {0}
SpelledText raw k (source a b) = Unit {0}
SpelledText raw k (decoded bs) = bs ≡ unescape (quotes_of k) (drop 1 raw)

abbrev pub Spelled : List ℕ → Meaning → Type 0
Spelled raw m = SpelledText raw m.kind m.text

module _ (s e : ℕ) (raw : List ℕ) where
  abbrev All : List Meaning → Type 0
  All = Every (Spelled raw)

  spelled_word : All (word_means s e raw)
  unfolding word_means
  spelled_word = if_all All (eqb (word_kind raw) kind.Identifier) (if_all All (first_is (code "+") raw && ltb 1 (length raw)) (tt, (tt, tt)) (tt, tt)) (tt, tt)

  spelled_run : (p : Parsed) → All (run_means p s e raw)
  unfolding run_means
  spelled_run (Ok p) = (tt, tt)
  spelled_run (Err parsed.NoNumber) = spelled_word
  spelled_run (Err parsed.ZeroDenominator) = (tt, tt)

  spelled_string : SpelledText raw kind.StringLiteral (string_text s e raw)
  unfolding string_text
  spelled_string = if_all (SpelledText raw kind.StringLiteral) (escaped raw) refl tt

  spelled_lined : SpelledText raw kind.Identifier (lined_text s e raw)
  unfolding lined_text
  spelled_lined = if_all (SpelledText raw kind.Identifier) (escaped raw && ltb 0 (length (unescape Lines (drop 1 raw)))) refl tt

  spelled_character : (v : Result ℕ CharError) → All (character_means v)
  spelled_character (Ok c) = (tt, tt)
  spelled_character (Err (Wrong n d)) = (tt, tt)
  spelled_character (Err (WrongAt n d p)) = (tt, tt)

  pub spelled : (report : Bool) (o : Outcome) → All (meaning_of report o s e raw)
  unfolding here_text
  spelled report (Token k d) = (tt, tt)
  spelled report Str = (spelled_string, tt)
  spelled report HereStr = (tt, tt)
  spelled report Word = spelled_word
  spelled report Run = spelled_run (parse_number raw)
  spelled report Lined = (spelled_lined, tt)
  spelled report Keyword = (tt, tt)
  spelled report Character = spelled_character (character_of report (char_inside raw))
  spelled report (Error n d) = (tt, tt)
  spelled report (ErrorAt n d a b) = (tt, tt)

-- ---- of two items of one extent, the first has no decoded text

abbrev Fronts : List Meaning → Type 0
Fronts [] = Unit {0}
Fronts (m ∷ []) = Unit {0}
Fronts (m ∷ n ∷ ms) = memory_of m.text ≡ []

module _ (s e : ℕ) (raw : List ℕ) where
  fronts_word : Fronts (word_means s e raw)
  unfolding word_means
  fronts_word = if_all Fronts (eqb (word_kind raw) kind.Identifier) (if_all Fronts (first_is (code "+") raw && ltb 1 (length raw)) refl tt) tt

  fronts_run : (p : Parsed) → Fronts (run_means p s e raw)
  unfolding run_means
  fronts_run (Ok p) = tt
  fronts_run (Err parsed.NoNumber) = fronts_word
  fronts_run (Err parsed.ZeroDenominator) = tt

  fronts_character : (v : Result ℕ CharError) → Fronts (character_means v)
  fronts_character (Ok c) = tt
  fronts_character (Err (Wrong n d)) = tt
  fronts_character (Err (WrongAt n d p)) = tt

  fronts : (report : Bool) (o : Outcome) → Fronts (meaning_of report o s e raw)
  fronts report (Token k d) = tt
  fronts report Str = tt
  fronts report HereStr = tt
  fronts report Word = fronts_word
  fronts report Run = fronts_run (parse_number raw)
  fronts report Lined = tt
  fronts report Keyword = tt
  fronts report Character = fronts_character (character_of report (char_inside raw))
  fronts report (Error n d) = tt
  fronts report (ErrorAt n d a b) = tt

abbrev FrontBare : List Item → Type 0
FrontBare [] = Unit {0}
FrontBare (i ∷ []) = Unit {0}
FrontBare (i ∷ j ∷ is) = memory_of i.text ≡ []

bare_items : (report : Bool) (last : Place) (s e : ℕ) (ms : List Meaning) → Fronts ms → FrontBare (items_of report last s e ms)
bare_items report last s e [] h = tt
bare_items report last s e (m ∷ []) h = tt
bare_items report last s e (m ∷ n ∷ ms) h = h

pub front_bare : (report : Bool) (last : Place) (s : ℕ) (o : Outcome) (i : SoFar) {x y : Item} → extent_items report last s o i ≡ x ∷ y ∷ [] → memory_of x.text ≡ []
unfolding extent_items
front_bare report last s o i e =
    subst FrontBare e (bare_items report (range_after report (standing report last) s o i) s i.at (meaning_of report o s i.at i.bytes) (fronts s i.at i.bytes report o))
