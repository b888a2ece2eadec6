-- What report mode and plain mode read where both begin an item, in a user's words: the same, but for a number, or error 8, that ends
-- before `;`, `"` or `|`.
use Rattle.std.specs.Prelude.{ℕ, ◌≡◌, true, List, ◌∷◌, Err}
use Rattle.laws.specs.Quoted.{codes, one_of}
use Rattle.numbers.specs.Grammar.{parse_number, numeric}
use Rattle.numbers.specs.declared.ParseError.TheVariants as parsed
use Rattle.items.specs.Readers.{Read}
use Rattle.items.specs.declared.Outcome.{Outcome}
use Rattle.items.specs.declared.Outcome.TheVariants.{Word, Run, ErrorAt}

-- Outcomes of report mode and of plain mode that say the same of an extent, whose bytes are `raw`: the same outcome; an error, which may
-- point elsewhere (02 (vii)); a run that is no number, which plain mode goes on with as a word
pub data Alike (raw : List ℕ) : Outcome → Outcome → Type 0 where
  same : (o : Outcome) → Alike raw o o
  error : (n d a b from to : ℕ) → Alike raw (ErrorAt n d a b) (ErrorAt n d from to)
  word : parse_number raw ≡ Err parsed.NoNumber → Alike raw Run Word

-- what report mode reads, and what plain mode does: one extent, of which both say the same, or a number that report mode alone ends
pub data AsPlain (report plain : Read) : Type 0 where
  alike : report.item ≡ plain.item → report.rest ≡ plain.rest → Alike report.item.bytes report.what plain.what → AsPlain report plain
  ends : report.what ≡ Run → numeric (parse_number report.item.bytes) ≡ true → (c : ℕ) (cs : List ℕ) → report.rest ≡ c ∷ cs
      → one_of (codes ";\"|") c ≡ true → AsPlain report plain
