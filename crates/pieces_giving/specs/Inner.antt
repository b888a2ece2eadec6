-- What the inner functions ask of their callers. No public call asks for anything.
use Rattle.std.specs.Prelude.{ℕ, ◌+◌, ◌^◌, ◌≤◌, ◌<◌, ◌≡◌, List, length, None, Option, Some}
use Rattle.chars.specs.Encode.{width}
use Rattle.items.specs.declared.Outcome.{Outcome}
use Rattle.items.specs.Whole.{limit}
use Rattle.meaning.specs.Meant.{error_of, last_error}
use Rattle.meaning.specs.Places.{reach, reach_from}
use Rattle.pieces.specs.declared.Marks.{Marks}
use Rattle.pieces.specs.Expected.{longest}

-- an item that starts at `start` is held, and everything lies within the longest text
pub record HoldsItem (m : Marks) (buf text : List ℕ) (start : ℕ) : Type 0 where
  pub full : length buf ≡ longest
  pub room : longest ≤ length text
  pub some : 1 ≤ m.len
  pub small : m.len ≤ longest
  pub ends : start + m.len ≡ m.at
  pub far : m.at ≤ limit
  pub from : m.from ≤ limit
  pub to : m.to ≤ limit

-- an outcome has one of 01's error numbers, and sets no range past the longest text
pub record OutcomeFits (what : Outcome) : Type 0 where
  pub number : error_of what ≤ last_error
  pub from : reach_from what ≤ limit
  pub to : reach what ≤ limit

-- a number of four bytes at most, that ends within the longest text
pub record CharFits (c at : ℕ) : Type 0 where
  pub far : at + width c ≤ limit
  pub small : c < 2 ^ 21

abbrev pub BeyondFits : Option ℕ → ℕ → Type 0
BeyondFits None at = Unit {0}
BeyondFits (Some c) at = CharFits c at
