-- An extent gives one item, or the two identifiers of a word that begins with a plus.
use Rattle.std.proofs.Common.{Ok, Err, Result}
use Rattle.items.specs.declared.CharError.{CharError}
use Rattle.items.specs.declared.CharError.TheVariants.{Wrong, WrongAt}
use Rattle.items.specs.declared.Outcome.{Outcome}
use Rattle.items.specs.declared.Outcome.TheVariants.{Token, Str, HereStr, Word, Run, Lined, Keyword, Character, Error, ErrorAt}
use Rattle.items.specs.Kinds as kind
use Rattle.items.specs.Meaning.{Meaning, means, source, word_kind, word_means, run_means, character_of, char_inside, character_means, meaning_of}
use Rattle.items.specs.Readers.{first_is}
use Rattle.numbers.specs.declared.ParseError.TheVariants as parsed
use Rattle.numbers.specs.Grammar.{parse_number, Parsed}
use Rattle.laws.specs.Quoted.{code}
use Rattle.laws.proofs.Choice.{if_all, if_is, and_true}
use Prim.Native.Nat.{ℕ, ◌+◌, ◌<◌}
use mathlib.Core.Bool.{Bool, ◌&&◌}
use mathlib.Core.List.{List, [], ◌∷◌}
use lib.ListN.{length}
use lib.Dec.{eqb, ltb}
use borrow.Author.Tests.{ltb-true}

-- the items of an extent from s to e, whose bytes are raw
pub data Shape (s e : ℕ) (raw : List ℕ) : List Meaning → Type 0 where
  alone : (m : Meaning) → Shape s e raw (m ∷ [])
  pair : 1 < length raw → Shape s e raw (means kind.Identifier 0 (source s (s + 1)) ∷ means kind.Identifier 0 (source (s + 1) e) ∷ [])

module _ (s e : ℕ) (raw : List ℕ) where
  word_shape : Shape s e raw (word_means s e raw)
  unfolding word_means
  word_shape =
      let P : List Meaning → Type 0 = Shape s e raw in
      if_all P (eqb (word_kind raw) kind.Identifier)
      (if_is P (first_is (code "+") raw && ltb 1 (length raw))
      (λ f. pair (ltb-true 1 (length raw) (and_true (first_is (code "+") raw) (ltb 1 (length raw)) f).1))
      (λ f. alone (means kind.Identifier 0 (source s e))))
      (alone _)

  run_shape : (p : Parsed) → Shape s e raw (run_means p s e raw)
  unfolding run_means
  run_shape (Ok p) = alone _
  run_shape (Err parsed.NoNumber) = word_shape
  run_shape (Err parsed.ZeroDenominator) = alone _

  character_shape : (v : Result ℕ CharError) → Shape s e raw (character_means v)
  character_shape (Ok c) = alone _
  character_shape (Err (Wrong n d)) = alone _
  character_shape (Err (WrongAt n d p)) = alone _

  pub shape : (report : Bool) (o : Outcome) → Shape s e raw (meaning_of report o s e raw)
  shape report (Token k d) = alone _
  shape report Str = alone _
  shape report HereStr = alone _
  shape report Word = word_shape
  shape report Run = run_shape (parse_number raw)
  shape report Lined = alone _
  shape report Keyword = alone _
  shape report Character = character_shape (character_of report (char_inside raw))
  shape report (Error n d) = alone _
  shape report (ErrorAt n d a b) = alone _
