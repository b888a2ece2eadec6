-- What the number grammar says of single characters: a letter's case, and signs.
use Rattle.std.specs.Prelude.{ℕ, ◌+◌, Bool, ◌||◌, eqb, if◌then◌else◌}
use Rattle.laws.specs.Quoted.{code, within}

-- what a letter of ASCII in upper case lacks to its lower case
abbrev pub to_lower : ℕ
to_lower = 32

-- "the letters used in the representation of numbers .. case is not significant" (R7RS 7.1.1): a letter in lower case, any other
-- character as it is
unfoldable pub lower : ℕ → ℕ
lower c = if within (code "A") (code "Z") c then c + to_lower else c

-- + or -
unfoldable pub is_sign : ℕ → Bool
is_sign c = eqb c (code "+") || eqb c (code "-")
