-- Items that one look tells: what a quick answer says of the item that starts at a place.
use Rattle.std.specs.Prelude.{ℕ, ◌+◌, ◌≤◌, ◌<◌, ◌≡◌, Bool, false, ◌&&◌, List, [], ◌∷◌, length, get_or, eqb, None, Option, Some}
use Rattle.laws.specs.Quoted.{code}
use Rattle.items.specs.Kinds as kind
use Rattle.items.specs.Classes.{delim_of, first_of, after_hash}
use Rattle.items.specs.Machine.{on_first, on_after_hash}
use Rattle.items.specs.Readers.{so_far, hash_kind}
use Rattle.items.specs.Items.{Place, range_after}
use Rattle.items.specs.declared.HashKind.TheVariants.{Decided}
use Rattle.items.specs.declared.Next.TheVariants.{Eat}
use Rattle.items.specs.declared.Outcome.{Outcome}
use Rattle.items.specs.declared.Outcome.TheVariants.{Token, Word}
use Rattle.items.specs.declared.Quotes.{Quotes}
use Rattle.items.specs.declared.Phase.{Phase}
use Rattle.items.specs.declared.Phase.TheVariants as ph
use Rattle.steps.specs.Scan.{part, answer}
use Rattle.steps.specs.Ended.{EndsAs}
use Rattle.meaning.specs.declared.Means.{Means}
use Rattle.lexer.specs.Inner.{First}
use Rattle.items_telling.specs.Tells.{Alone, Level, quoted_kind}
use Rattle.items_telling.specs.declared.Quick.{Quick}
use Rattle.items_telling.specs.declared.Quick.TheVariants.{Item, Bracket, Other}

-- an item starts at a place with a character that ends at the place `next` and leaves it in a phase
pub record Begins (s : List ℕ) (at next : ℕ) (p : Phase) : Type 0 where
  pub c : ℕ
  pub first : First s at c next
  pub stands : on_first (first_of c) ≡ p

-- a byte that may begin a word of those that are told after all others: of ASCII, one from < to Z
abbrev pub Rare : ℕ → Type 0
Rare b = (code "<" ≤ b) × (b < 0x80 → b ≤ code "Z")

-- a word starts at a place, not with a plus
pub record Worded (s : List ℕ) (at next : ℕ) : Type 0 where
  pub begins : Begins s at next ph.InWord
  pub other : get_or s at 0 ≡ code "+" → ⊥

-- the same, and where it ends
abbrev pub WordedTo : List ℕ → ℕ → Option ℕ → Type 0
WordedTo s at (Some e) = (next : ℕ) × (Worded s at next × ((report : Bool) → EndsAs s report ph.InWord Word next (Some e)))
WordedTo s at None = Unit

-- a quote stands at a place, which such a quote closes, and what is wholly in them has a kind
pub record Quoting (s : List ℕ) (at quote kind : ℕ) : Type 0 where
  pub quotes : Quotes
  pub some : at < length s
  pub opens : get_or s at 0 ≡ delim_of quotes
  pub closes : quote ≡ delim_of quotes
  pub is : kind ≡ quoted_kind quotes

-- a number sign stands at a place
pub record Sharp (s : List ℕ) (at : ℕ) : Type 0 where
  pub some : at < length s
  pub sharp : get_or s at 0 ≡ code "#"

-- and a letter after it, which spells a boolean with it
pub record Spells (s : List ℕ) (at v : ℕ) : Type 0 where
  pub sign : Sharp s at
  pub more : at + 1 < length s
  pub letter : ℕ
  pub stands : get_or s (at + 1) 0 ≡ letter
  pub small : letter < 0x80
  pub stays : (raw : List ℕ) → on_after_hash (after_hash letter) raw letter ≡ Eat ph.InHash
  pub boolean : hash_kind (code "#" ∷ letter ∷ []) ≡ Decided (Token kind.BooleanLiteral v)

-- or a vertical line after it, which opens a nested comment with it
pub record Nests (s : List ℕ) (at : ℕ) : Type 0 where
  pub sign : Sharp s at
  pub more : at + 1 < length s
  pub bar : get_or s (at + 1) 0 ≡ code "|"

-- or a backslash after it, which opens a character with it
pub record Marks (s : List ℕ) (at : ℕ) : Type 0 where
  pub sign : Sharp s at
  pub more : at + 1 < length s
  pub mark : get_or s (at + 1) 0 ≡ code "\\"

-- from the place a to the place e stands an item with the meaning m, which is not skipped
pub record Glanced (s : List ℕ) (report skip : Bool) (a e : ℕ) (m : Means) : Type 0 where
  pub what : Outcome
  pub phase : Phase
  pub next : ℕ
  pub begins : Begins s a next phase
  pub scan : record { what = what; end = e } ≡ answer s report a phase next
  pub quiet : (last : Place) (end : ℕ) → range_after report last a what (so_far (part s a e) end) ≡ last
  pub alone : Alone what a (part s a e) m
  pub kept : (skip && eqb m.kind kind.Comment) ≡ false

-- such an item, and no error
abbrev pub GlanceAt : List ℕ → Bool → Bool → ℕ → Quick → Type 0
GlanceAt s report skip at (Item m a e) = (a ≡ at) × (m.kind < kind.first_error) × Glanced s report skip at e m × Level m.kind
GlanceAt s report skip at (Bracket m a e) = (a ≡ at) × (m.kind < kind.first_error) × Glanced s report skip at e m
GlanceAt s report skip at Other = Unit

-- ---- where an item ends, whatever it means

abbrev pub SkimAt : List ℕ → Bool → Bool → ℕ → Option ℕ → Type 0
SkimAt s report skip at (Some e) = (m : Means) × Glanced s report skip at e m
SkimAt s report skip at None = Unit
