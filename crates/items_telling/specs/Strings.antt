-- Strings by their bytes: what a look at them tells from a place on.
use Rattle.std.specs.Prelude.{ℕ, ◌+◌, ◌-◌, ◌≤◌, ◌<◌, ◌≡◌, Bool, List, length, get_or}
use Rattle.items.specs.Kinds as kind
use Rattle.items.specs.Classes.{after_backslash}
use Rattle.items.specs.Readers.{SoFar}
use Rattle.items.specs.Machine.{on_escape}
use Rattle.items.specs.declared.Outcome.{Outcome}
use Rattle.items.specs.declared.Outcome.TheVariants.{Str, ErrorAt}
use Rattle.items.specs.declared.Next.TheVariants.{Eat}
use Rattle.items.specs.declared.Phase.TheVariants as ph
use Rattle.items.specs.declared.Quotes.TheVariants.{Double}
use Rattle.steps.specs.Scan.{answer, Passes}
use Rattle.items_telling.specs.declared.Strung.{Strung}
use Rattle.items_telling.specs.declared.Strung.TheVariants.{Whole, Fails, On}

-- a character of ASCII that is an escape with the backslash before it
abbrev pub Short : ℕ → Type 0
Short c = (c < 0x80) × ((from : ℕ) (i : SoFar) → on_escape (after_backslash c) Double from i c ≡ Eat (ph.Quoted Double))

-- the error at the character at a place, behind a backslash
abbrev pub failure : List ℕ → ℕ → Outcome
failure s e = ErrorAt kind.InvalidStringEscape (get_or s e 0) (e - 1) (e + 1)

-- a string that stands at the place `from` is this and ends there
abbrev pub StringIs : List ℕ → ℕ → Outcome → ℕ → Type 0
StringIs s from what e = (report : Bool) (a : ℕ) → a ≤ from → record { what = what; end = e } ≡ answer s report a (ph.Quoted Double) from

abbrev pub StrungAs : List ℕ → ℕ → Strung → Type 0
StrungAs s from (Whole e) = (from < e) × (e ≤ length s) × StringIs s from Str e
StrungAs s from (Fails e) = (from < e) × (e < length s) × StringIs s from (failure s e) e
StrungAs s from (On at) = Passes s (ph.Quoted Double) from at
