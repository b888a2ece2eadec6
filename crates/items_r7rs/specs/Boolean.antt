-- R7RS 7.1.1: <boolean> → #t | #f | #true | #false
-- Departure: to the standard the case of a letter is not significant here; to the Rust `#T` is an identifier
use Rattle.std.specs.Prelude.{ℕ, Bool, true, false, List}
use Rattle.laws.specs.Quoted.{codes}

-- a text, and the truth value that it writes
pub data Boolean : List ℕ → Bool → Type 0 where
  short_true : Boolean (codes "#t") true
  short_false : Boolean (codes "#f") false
  long_true : Boolean (codes "#true") true
  long_false : Boolean (codes "#false") false

-- a truth value as the detail of an item
abbrev pub truth : Bool → ℕ
truth true = 1
truth false = 0
