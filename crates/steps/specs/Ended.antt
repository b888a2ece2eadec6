-- Where an item ends, as far as one look past its run of bytes tells.
use Rattle.std.specs.Prelude.{ℕ, ◌-◌, ◌≤◌, ◌<◌, ◌≡◌, Bool, false, List, length, get_or, None, Option, Some}
use Rattle.items.specs.Classes.{delim_of}
use Rattle.items.specs.Readers.{closed}
use Rattle.items.specs.Meaning.{escaped}
use Rattle.items.specs.declared.Outcome.{Outcome}
use Rattle.items.specs.declared.Phase.{Phase}
use Rattle.items.specs.declared.Phase.TheVariants as ph
use Rattle.items.specs.declared.Quotes.{Quotes}
use Rattle.steps.specs.Scan.{part, answer}

-- an item that stands in a phase at the place `from` is this, and it ends there
abbrev pub EndsAs : List ℕ → Bool → Phase → Outcome → ℕ → Option ℕ → Type 0
EndsAs s report p o from (Some e) = (a : ℕ) → a ≤ from → answer s report a p from ≡ record { what = o; end = e }
EndsAs s report p o from None = Unit

-- Quotes without an escape. What an item is that stands in them at the place `from` goes by all its bytes, where they are closed: `|a|` is an
-- identifier, and `x|a|` an error
pub record ClosesAt (s : List ℕ) (k : Quotes) (from e : ℕ) : Type 0 where
  pub some : from < e
  pub inside : e ≤ length s
  pub last : get_or s (e - 1) 0 ≡ delim_of k
  pub unescaped : escaped (part s from e) ≡ false
  pub is : (report : Bool) (a : ℕ) → a ≤ from → answer s report a (ph.Quoted k) from ≡ record { what = closed k (part s a e); end = e }

abbrev pub Closes : List ℕ → Quotes → ℕ → Option ℕ → Type 0
Closes s k from (Some e) = ClosesAt s k from e
Closes s k from None = Unit
