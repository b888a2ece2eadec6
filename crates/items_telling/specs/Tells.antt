-- What an outcome and the bytes of an extent tell at one look.
use Rattle.std.specs.Prelude.{ℕ, ◌+◌, ◌<◌, ◌≡◌, Bool, false, List, [], ◌∷◌, length, eqb}
use Rattle.items.specs.Kinds as kind
use Rattle.items.specs.Items.{depth_after}
use Rattle.items.specs.Meaning.{meaning_of}
use Rattle.items.specs.declared.Outcome.{Outcome}
use Rattle.items.specs.declared.Outcome.TheVariants.{Str, Lined}
use Rattle.items.specs.declared.Quotes.{Quotes}
use Rattle.items.specs.declared.Quotes.TheVariants.{Double, Lines}
use Rattle.meaning.specs.Meant.{sized_all}
use Rattle.meaning.specs.declared.Text.{Text}
use Rattle.meaning.specs.declared.Text.TheVariants.{Nowhere, Source, Decoded}
use Rattle.meaning.specs.declared.Means.{Means}
use Rattle.items_telling.specs.declared.Quick.{Quick}
use Rattle.items_telling.specs.declared.Quick.TheVariants.{Item, Bracket, Other}

-- a text that is not in the text memory
abbrev pub Undecoded : Text → Type 0
Undecoded Nowhere = Unit
Undecoded (Source a b) = Unit
Undecoded (Decoded n) = ⊥

-- the one meaning of an extent, with no decoded text
pub record Alone (what : Outcome) (at : ℕ) (raw : List ℕ) (m : Means) : Type 0 where
  pub means : (report : Bool) → m ∷ [] ≡ sized_all (meaning_of report what at (at + length raw) raw)
  pub undecoded : Undecoded m.text

-- a kind that leaves the depth as it is: that of no bracket
abbrev pub Level : ℕ → Type 0
Level k = (depth : ℕ) → depth_after k depth ≡ depth

-- what the outcome and the bytes of an extent that is no comment, no error and no bracket tell quickly
abbrev pub Tells : Outcome → ℕ → List ℕ → Quick → Type 0
Tells what at raw (Item m a e) = (a ≡ at) × (e ≡ at + length raw) × (eqb m.kind kind.Comment ≡ false) × (m.kind < kind.first_error) × Alone what at raw m × Level m.kind
Tells what at raw (Bracket m a e) = ⊥
Tells what at raw Other = Unit

-- what an item is that is wholly in quotes, and its kind
abbrev pub quoted_as : Quotes → Outcome
quoted_as Double = Str
quoted_as Lines = Lined

abbrev pub quoted_kind : Quotes → ℕ
quoted_kind Double = kind.StringLiteral
quoted_kind Lines = kind.Identifier
