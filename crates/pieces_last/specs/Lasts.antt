-- An item that ends with the text.
use Rattle.std.specs.Prelude.{ℕ, ◌+◌, ◌<◌, ◌≡◌, Bool, List, [], ◌∷◌, length}
use Rattle.items.specs.Kinds as kind
use Rattle.items.specs.declared.Phase.{Phase}
use Rattle.items.specs.declared.Outcome.{Outcome}
use Rattle.items.specs.Readers.{SoFar}
use Rattle.items.specs.Meaning.{meaning_of}
use Rattle.items.specs.Items.{Place, range_after}
use Rattle.items.specs.Machine.{finish_of}
use Rattle.meaning.specs.Meant.{sized_all}
use Rattle.meaning.specs.declared.Means.{Means}
use Rattle.items_telling.specs.declared.Quick.{Quick}
use Rattle.items_telling.specs.declared.Quick.TheVariants.{Item, Bracket, Other}
use Rattle.pieces.specs.declared.Stage.TheVariants.{Busy}
use Rattle.pieces_lent.specs.Coding.{row, stage_of}

-- an item of the stage that starts at a place ends with the text, and has one meaning, which is no error
pub record Lasts (stage which detail at : ℕ) (raw : List ℕ) (m : Means) : Type 0 where
  pub phase : Phase
  pub what : Outcome
  pub stands : (start : ℕ) → stage_of (row stage start which detail 0 0) ≡ Busy start phase
  pub ends : finish_of phase raw ≡ what
  pub quiet : (report : Bool) (last : Place) (i : SoFar) → range_after report last at what i ≡ last
  pub means : (report : Bool) → m ∷ [] ≡ sized_all (meaning_of report what at (at + length raw) raw)
  pub fine : m.kind < kind.first_error

abbrev pub TellsLast : ℕ → ℕ → ℕ → ℕ → List ℕ → Quick → Type 0
TellsLast stage which detail at raw (Item m a e) = Lasts stage which detail at raw m
TellsLast stage which detail at raw (Bracket m a e) = Unit {0}
TellsLast stage which detail at raw Other = Unit {0}
